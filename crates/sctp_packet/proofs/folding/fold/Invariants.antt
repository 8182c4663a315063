use Rattle.std.proofs.Common.{◌≡◌, ℕ, ◌+◌, ◌%◌, ◌<◌, ◌≤◌, length}
use Rattle.std.specs.Prelude.{slice_index}
use Rattle.sctp_packet.specs.Folding.{IsFolded}
use Rattle.sctp_packet.proofs.folding.fold.Given as goal

-- the bytes before `at` are folded, and `rest` are those after them
abbrev pub invariant-loop-rest : goal.invariant-loop-rest
invariant-loop-rest l =
    (length l.room ≡ length l.fn.room)
    × IsFolded l.register l.bytes l.at l.room
    × ((j : ℕ) → slice_index l.room j < 256)
    × (length l.rest + l.at ≡ l.ends)
    × ((k : ℕ) → k < length l.rest → slice_index l.rest k ≡ slice_index l.bytes (l.at + k))
    × (l.at % 64 ≡ l.ends % 64)
    × (128 ≤ l.at)

abbrev pub decreases-loop-rest : goal.decreases-loop-rest
decreases-loop-rest l = length l.rest
