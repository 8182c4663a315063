use Rattle.std.proofs.Common.{◌∙◌, sym, ap, map, arith}
use Rattle.std.proofs.lemmas.List.{length-map}
use Rattle.sctp_send.specs.SenderFields.{queued_by}
use Rattle.sctp_send.specs.inner.Owning.{messages_of}
use Rattle.sctp_send.specs.declared.kept.message.Message.{Message as MessageFields}
use Rattle.sctp_send.proofs.WalkLemmas.{queue_read}
use Rattle.sctp_send.proofs.fill.TurnLemmas.{passed_none, passed_here}
use Rattle.sctp_send.proofs.kept.OwnedLemmas.{message_read, messages_long}
use Rattle.sctp_send.proofs.kept.seats.is_in_front.Goals as goal

pub returns-then-deref-stream-clause-first : goal.returns-then-deref-stream-clause-first
returns-then-deref-stream-clause-first c = λ size on.
    let ws = c.args.messages.now.items in
    let ms = messages_of ws in
    let w = c.index.result.now in
    let long = length-map ms (queued_by size) in
    let many = messages_long ws in
    passed_here c.args.stream 0 (map (queued_by size) ms) (queued_by size w.message) (omega (arith, long, many)) (queue_read size ms 0 w.message (message_read ws 0 w c.index.ensures))
    (sym (ap (λ (m : MessageFields). m.stream) c.deref.ensures) ∙ c.if-deref-stream.true) (passed_none c.args.stream (map (queued_by size) ms))
