use Rattle.std.proofs.Common.{◌≡◌, ◌*◌, length}
use Rattle.sctp_packet.specs.Folding.{IsFolded}
use Rattle.sctp_packet.proofs.folding.fold_alone.Given as goal

abbrev pub invariant-loop-place : goal.invariant-loop-place
invariant-loop-place l = (length l.room ≡ length l.fn.room) × IsFolded l.register l.bytes (8 * l.place) l.room
