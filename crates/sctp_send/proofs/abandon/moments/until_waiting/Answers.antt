use Rattle.std.proofs.Common.{Option, arith, ap, sym, ◌∙◌}
use Rattle.std.specs.Prelude.{option_and_then}
use Rattle.sctp_model.specs.sender.SenderView.{Queued}
use Rattle.sctp_send.specs.declared.kept.message.Message.{Message as MessageFields}
use Rattle.sctp_send.proofs.abandon.UntilLemmas.{past_lower, past_other, found_until, none_until}
use Rattle.sctp_send.proofs.abandon.moments.until_waiting.Goals as goal

pub loop-at-init : goal.loop-at-init
loop-at-init c = λ size. past_lower c.args.ticket size c.first_from-at.result c.args.queue.now.items c.first_from-at.ensures.lower c.first_from-at.ensures.within

pub loop-at-preserved : goal.loop-at-preserved
loop-at-preserved c = λ size.
    let ticket = ap (λ (m : MessageFields). m.ticket) c.deref.ensures in
    c.loop-at.invariant size ∙ past_other c.args.ticket size c.loop-at.at c.args.queue.now.items c.get-message.result.now (omega arith) c.get-message.ensures (λ e. c.if-deref-ticket.false (ticket ∙ e))

pub returns-then-deref-ticket : goal.returns-then-deref-ticket
returns-then-deref-ticket c = λ size.
    let ticket = ap (λ (m : MessageFields). m.ticket) c.deref.ensures in
    ap (λ (m : MessageFields). m.until) c.deref-then-deref-ticket.ensures
    ∙ found_until c.args.ticket size c.loop-at.at c.args.queue.now.items c.get-message.result.now (omega arith) c.get-message.ensures (sym ticket ∙ c.if-deref-ticket.true)
    ∙ sym (ap (λ (o : Option Queued). option_and_then (λ q. q.message.until) o) (c.loop-at.invariant size))

pub returns : goal.returns
returns c = λ size. sym (ap (λ (o : Option Queued). option_and_then (λ q. q.message.until) o) (c.loop-at.invariant size ∙ none_until c.args.ticket size c.loop-at.at c.args.queue.now.items (omega arith)))
