use Rattle.std.proofs.Common.{◌≤◌, ap, arith}
use Rattle.sctp_send.specs.inner.Owning.{messages_of}
use Rattle.sctp_send.specs.inner.Seating.{ticket_in}
use Rattle.sctp_send.specs.declared.kept.message.Message.{Message as MessageFields}
use Rattle.sctp_send.proofs.kept.OwnedLemmas.{message_read, messages_long}
use Rattle.sctp_send.proofs.kept.RiseLemmas.{first_place}
use Rattle.sctp_send.proofs.kept.seats.first_from.Goals as goal

pub returns-then-deref-ticket-clause-place : goal.returns-then-deref-ticket-clause-place
returns-then-deref-ticket-clause-place c = λ on.
    let ws = c.args.messages.now.items in
    let w = c.index.result.now in
    let here = ap (λ (m : MessageFields). m.ticket) c.deref.ensures in
    let le : c.args.ticket ≤ ticket_in w.message = omega (arith, here, c.if-deref-ticket.true) in
    let many = messages_long ws in
    first_place c.args.ticket (messages_of ws) w.message (c.requires on) (omega (arith, many)) (message_read ws 0 w c.index.ensures) le
