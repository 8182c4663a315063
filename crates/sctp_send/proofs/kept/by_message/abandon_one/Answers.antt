use Rattle.std.proofs.Common.{◌∙◌, ap, sym, true}
use Rattle.sctp_send.specs.inner.Changes.{stood, as_abandoned}
use Rattle.sctp_send.specs.declared.kept.message.Message.{Message as MessageFields}
use Rattle.sctp_send.proofs.kept.ChangedLemmas.{changed_at_like}
use Rattle.sctp_send.proofs.kept.StoodLemmas.{stays_there, abandoned_mine, abandoned_other}
use Rattle.sctp_send.proofs.kept.by_message.abandon_one.Goals as goal

pub returns-then-deref-ticket-clause-items : goal.returns-then-deref-ticket-clause-items
returns-then-deref-ticket-clause-items c =
    let x = c.index-entry.result.now in
    let ticket = ap (λ (m : MessageFields). m.ticket) c.deref.ensures in
    let same = abandoned_mine c.args.ticket c.unmarked.result x (sym ticket ∙ c.if-deref-ticket.true) c.unmarked.ensures in
    c.stand_one.ensures.items ∙ changed_at_like (stood (record { standing = c.unmarked.result; covered = x.covered; abandoned = true; repeats = x.repeats })) (as_abandoned c.args.ticket) c.args.at c.args.entries.now.items x c.index-entry.ensures same

pub returns-else-deref-ticket-clause-items : goal.returns-else-deref-ticket-clause-items
returns-else-deref-ticket-clause-items c =
    let x = c.index-entry.result.now in
    let ticket = ap (λ (m : MessageFields). m.ticket) c.deref.ensures in
    stays_there (as_abandoned c.args.ticket) c.args.at c.args.entries.now.items x c.index-entry.ensures (abandoned_other c.args.ticket x (λ e. c.if-deref-ticket.false (ticket ∙ e)))
