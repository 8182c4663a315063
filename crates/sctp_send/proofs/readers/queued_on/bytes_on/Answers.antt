use Rattle.std.proofs.Common.{refl, arith}
use Rattle.sctp_send.proofs.kept.QueuedOnLemmas.{looked_at, looked_through}
use Rattle.sctp_send.proofs.readers.queued_on.bytes_on.Goals as goal

pub loop-at-init : goal.loop-at-init
loop-at-init c = λ some. refl

pub loop-at-preserved : goal.loop-at-preserved
loop-at-preserved c = λ some.
    looked_at c.args.queue.now.size c.args.stream c.args.payload_ids.now c.args.queue.now.items c.loop-at.at c.get.result.now c.deref.result.now c.loop-at.bytes c.bytes_if_on-bytes.result some (omega arith) c.get.ensures c.deref.ensures
    (c.bytes_if_on-bytes.ensures c.args.queue.now.size) (c.loop-at.invariant some)

pub returns : goal.returns
returns c = λ some. looked_through c.args.queue.now.size c.args.stream c.args.payload_ids.now c.args.queue.now.items c.loop-at.at c.loop-at.bytes (omega arith) (c.loop-at.invariant some)
