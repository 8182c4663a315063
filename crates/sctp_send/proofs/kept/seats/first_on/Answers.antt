use Rattle.std.proofs.Common.{◌∙◌, sym, ap, arith}
use Rattle.std.proofs.lemmas.List.{length-map}
use Rattle.sctp_send.specs.SenderFields.{queued_by}
use Rattle.sctp_send.specs.inner.Owning.{messages_of}
use Rattle.sctp_send.specs.declared.kept.message.Message.{Message as MessageFields}
use Rattle.sctp_send.proofs.WalkLemmas.{queue_read}
use Rattle.sctp_send.proofs.fill.TurnLemmas.{passed_none, passed_more, passed_here, passed_all}
use Rattle.sctp_send.proofs.kept.OwnedLemmas.{message_read, messages_long}
use Rattle.sctp_send.proofs.kept.seats.first_on.Goals as goal

pub loop-at-init : goal.loop-at-init
loop-at-init c = λ size. passed_none c.args.stream _

pub loop-at-preserved : goal.loop-at-preserved
loop-at-preserved c = λ size.
    let ws = c.args.messages.now.items in
    let w = c.index.result.now in
    let long = length-map (messages_of ws) (queued_by size) in
    let many = messages_long ws in
    passed_more c.args.stream c.loop-at.at _ (queued_by size w.message) (omega (arith, long, many)) (queue_read size (messages_of ws) c.loop-at.at w.message (message_read ws c.loop-at.at w c.index.ensures))
    (λ same. c.if-deref-stream.false (ap (λ (m : MessageFields). m.stream) c.deref.ensures ∙ same)) (c.loop-at.invariant size)

pub returns-then-deref-stream-clause-first : goal.returns-then-deref-stream-clause-first
returns-then-deref-stream-clause-first c = λ size.
    let ws = c.args.messages.now.items in
    let w = c.index.result.now in
    let long = length-map (messages_of ws) (queued_by size) in
    let many = messages_long ws in
    passed_here c.args.stream c.loop-at.at _ (queued_by size w.message) (omega (arith, long, many)) (queue_read size (messages_of ws) c.loop-at.at w.message (message_read ws c.loop-at.at w c.index.ensures))
    (sym (ap (λ (m : MessageFields). m.stream) c.deref.ensures) ∙ c.if-deref-stream.true) (c.loop-at.invariant size)

pub returns-clause-first : goal.returns-clause-first
returns-clause-first c = λ size.
    let ws = c.args.messages.now.items in
    let long = length-map (messages_of ws) (queued_by size) in
    let many = messages_long ws in
    passed_all c.args.stream c.loop-at.at _ (omega (arith, long, many)) (c.loop-at.invariant size)
