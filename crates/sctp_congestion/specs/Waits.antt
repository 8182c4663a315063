-- The bounds of the RTO that no option sets: RTO.Initial and RTO.Max (RFC 9260, 16).
use Rattle.std.specs.Prelude.{ℕ}
use Rattle.sctp_model.specs.numbers.Limits.{FIRST_WAIT, LONGEST_WAIT}
use Rattle.sctp_model.specs.end.Trips.{RtoBounds}

-- with this RTO.Min
abbrev pub plain_waits : (least : ℕ) → RtoBounds
plain_waits least = record { first = FIRST_WAIT; least = least; longest = LONGEST_WAIT }
