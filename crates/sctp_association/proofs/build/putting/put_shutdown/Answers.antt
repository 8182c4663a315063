use Rattle.std.proofs.Common.{false}
use Rattle.sctp_model.specs.wire.Chunk.{Shutdown}
use Rattle.sctp_model.specs.end.EndView.{format_of}
use Rattle.sctp_model.specs.end.Building.{ShutdownSlot}
use Rattle.sctp_association.proofs.PutLemmas.{not_due, stays_out, goes_in, shutdown_left, says_cumulative}
use Rattle.sctp_association.proofs.build.putting.put_shutdown.Goals as goal

pub returns-then-not-packing : goal.returns-then-not-packing
returns-then-not-packing c = λ e stands packet. not_due ShutdownSlot e c.args.packing.now c.if-not-packing.true packet

pub returns-then-not-branch : goal.returns-then-not-branch
returns-then-not-branch c = λ e stands packet.
    let x = c.cumulative-cumulative.result in
    stays_out ShutdownSlot e c.args.packing.now _ (Shutdown x) _ c.if-not-packing.false
    (says_cumulative e c.args.packing.now.marks x (c.cumulative-cumulative.ensures (format_of e) e.sender e.receiver stands))
    packet c.if-not-branch.true c.in_ok-try_chunk.ensures.answer c.in_ok-try_chunk.ensures.after

pub returns : goal.returns
returns c = λ e stands packet.
    let m = c.args.packing.now.marks in
    let x = c.cumulative-cumulative.result in
    goes_in ShutdownSlot e c.args.packing.now (record m { shutdown = false; starts = c.add.new.self }) _ (Shutdown x) _ c.if-not-packing.false
    (says_cumulative e m x (c.cumulative-cumulative.ensures (format_of e) e.sender e.receiver stands))
    (shutdown_left (record m { shutdown = false }) e c.add.new.self packet.options c.add.ensures)
    (λ still. still) packet c.if-not-branch.false c.in_ok-try_chunk.ensures.answer c.in_ok-try_chunk.ensures.after
