use Rattle.std.proofs.Common.{◌≡◌, ℕ, ◌+◌, ◌-◌, ◌*◌, ◌<◌, ◌≤◌, bit_xor, length}
use Rattle.std.specs.Prelude.{slice_index}
use Rattle.sctp_packet.specs.Folding.{FRONT, reaching}
use Rattle.sctp_packet.proofs.folding.leave.Given as goal

-- the last blocks are written, and all before them is as it was
abbrev pub invariant-loop-turn : goal.invariant-loop-turn
invariant-loop-turn l =
    (length l.room ≡ length l.fn.room)
    × ((i : ℕ) → l.ends + (224 - 32 * l.turn) ≤ i → i < l.ends + 224 → slice_index l.room (FRONT + i) ≡ bit_xor (slice_index l.bytes i) (reaching l.fn.room (FRONT + i)))
    × ((j : ℕ) → j < FRONT + (l.ends + (224 - 32 * l.turn)) → slice_index l.room j ≡ slice_index l.fn.room j)
    × ((j : ℕ) → slice_index l.room j < 256)
