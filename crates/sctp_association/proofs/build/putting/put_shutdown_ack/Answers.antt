use Rattle.std.proofs.Common.{false}
use Rattle.sctp_model.specs.wire.Chunk.{ShutdownAck}
use Rattle.sctp_model.specs.end.EndView.{AckAlarm}
use Rattle.sctp_model.specs.end.Building.{ShutdownAckSlot, AnswerShutdown}
use Rattle.sctp_association.proofs.PutLemmas.{not_due, stays_out, goes_in, started_left}
use Rattle.sctp_association.proofs.build.putting.put_shutdown_ack.Goals as goal

pub returns-then-not-packing : goal.returns-then-not-packing
returns-then-not-packing c = λ e packet. not_due ShutdownAckSlot e c.args.packing.now c.if-not-packing.true packet

pub returns-then-not-branch : goal.returns-then-not-branch
returns-then-not-branch c = λ e packet.
    stays_out ShutdownAckSlot e c.args.packing.now _ ShutdownAck _ c.if-not-packing.false
    AnswerShutdown packet c.if-not-branch.true c.in_ok-try_chunk.ensures.answer c.in_ok-try_chunk.ensures.after

pub returns : goal.returns
returns c = λ e packet.
    let m = c.args.packing.now.marks in
    goes_in ShutdownAckSlot e c.args.packing.now (record m { shutdown_ack = false; starts = c.add.new.self }) _ ShutdownAck _ c.if-not-packing.false
    AnswerShutdown (started_left AckAlarm (record m { shutdown_ack = false }) e c.add.new.self c.add.ensures)
    (λ still. still) packet c.if-not-branch.false c.in_ok-try_chunk.ensures.answer c.in_ok-try_chunk.ensures.after
