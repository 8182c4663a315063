use Rattle.std.proofs.Common.{◌≡◌, ℕ, ◌*◌, ◌^◌, ◌<◌, length}
use Rattle.sctp_packet.specs.Folding.{IsFolded}
use Rattle.sctp_packet.proofs.folding.fold_near.Given as goal

abbrev pub invariant-loop-place : goal.invariant-loop-place
invariant-loop-place l = (length l.room ≡ length l.fn.room) × ((r : ℕ) → r < 2 ^ 32 → IsFolded r l.bytes 64 l.fn.room → IsFolded r l.bytes (8 * l.place) l.room)
