use Rattle.std.proofs.Common.{arith, ap, sym, ◌∙◌}
use Rattle.sctp_send.specs.declared.kept.message.Message.{Message as MessageFields}
use Rattle.sctp_send.proofs.abandon.WithdrawLemmas.{walked_place, found_place, ended_place}
use Rattle.sctp_send.proofs.kept.SeatedLemmas.{place_from}
use Rattle.sctp_send.proofs.abandon.place_of.Goals as goal

pub loop-at-preserved : goal.loop-at-preserved
loop-at-preserved c = λ size.
    let ticket = ap (λ (m : MessageFields). m.ticket) c.deref.ensures in
    walked_place c.args.ticket size c.args.queue.now.items c.loop-at.at c.get-message.result.now (omega arith) c.get-message.ensures (λ e. c.if-deref-ticket.false (ticket ∙ e)) (c.loop-at.invariant size)

pub returns-then-deref-ticket : goal.returns-then-deref-ticket
returns-then-deref-ticket c = λ size.
    let ticket = ap (λ (m : MessageFields). m.ticket) c.deref.ensures in
    found_place c.args.ticket size c.args.queue.now.items c.loop-at.at c.get-message.result.now (omega arith) c.get-message.ensures (sym ticket ∙ c.if-deref-ticket.true) (c.loop-at.invariant size)

pub returns : goal.returns
returns c = λ size. ended_place c.args.ticket size c.args.queue.now.items c.loop-at.at c.len.result (omega arith) (omega arith) (c.loop-at.invariant size)

pub loop-at-init : goal.loop-at-init
loop-at-init c = λ size. place_from c.args.ticket size c.first_from-at.result c.args.queue.now.items c.first_from-at.ensures.within c.first_from-at.ensures.lower
