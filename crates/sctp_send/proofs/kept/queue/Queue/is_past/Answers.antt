use Rattle.std.proofs.Common.{◌≡◌, ◌<◌, map, false, subst, ap, arith}
use Rattle.sctp_model.specs.sender.Abandoning.{waits}
use Rattle.sctp_send.specs.SenderFields.{queued_by}
use Rattle.sctp_send.specs.PartsKept.{QueueKept}
use Rattle.sctp_send.specs.inner.Owning.{messages_of}
use Rattle.sctp_send.specs.declared.kept.message.Message.{Message as MessageFields}
use Rattle.sctp_send.proofs.DueKept.{none_waits, rising_past}
use Rattle.sctp_send.proofs.kept.OwnedLemmas.{message_read, messages_long}
use Rattle.sctp_send.proofs.kept.queue.Queue.is_past.Goals as goal

pub returns-then-len-eq0 : goal.returns-then-len-eq0
returns-then-len-eq0 c = λ size t on le.
    let w = c.self.inside in
    let many = messages_long w.messages.items in
    subst (λ (k : QueueKept). waits t (map (queued_by size) k.items) ≡ false) c.self.view_is (none_waits size t (messages_of w.messages.items) (omega (arith, many, c.if-len-eq0.true, c.len.ensures, w.messages.ok)))

pub returns-then-last-deref : goal.returns-then-last-deref
returns-then-last-deref c = λ size t on le.
    let w = c.self.inside in
    let x = c.index.result.now in
    let many = messages_long w.messages.items in
    let ticket = ap (λ (m : MessageFields). m.ticket) c.deref.ensures in
    let past : c.args.last < x.message.value.ticket = omega (arith, ticket, c.if-last-deref.true) in
    let first = message_read w.messages.items 0 x c.index.ensures in
    subst (λ (k : QueueKept). waits t (map (queued_by size) k.items) ≡ false) c.self.view_is (rising_past size c.args.last t (messages_of w.messages.items) x.message (c.self.invariant.order c.if-not-self.false) (omega (arith, many, c.if-len-eq0.false, c.len.ensures, w.messages.ok)) first past le)
