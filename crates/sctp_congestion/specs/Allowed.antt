-- How much of a packet's space congestion control allows.
use Rattle.std.specs.Prelude.{ℕ}
use Rattle.sctp_congestion.specs.declared.control.Allowance.{Allowance}
use Rattle.sctp_congestion.specs.declared.control.Allowance.TheVariants.{All, Retransmissions, Nothing}

-- of this space, of which the retransmissions take the second number
abbrev pub room_allowed : Allowance → (room repeats : ℕ) → ℕ
room_allowed All room repeats = room
room_allowed Retransmissions room repeats = repeats
room_allowed Nothing room repeats = 0
