-- The end of a packet: a fragment that would be retransmitted for its third miss indication, and was retransmitted as often as its message's limit allows,
-- isn't: its message is abandoned (RFC 9260, 7.2.4; RFC 7496, 3.1). In the middle of a packet none is abandoned, so that no chunk of it assigns a TSN.
use Rattle.std.specs.Prelude.{ℕ, nat_lt, true, ◌&&◌, if◌then◌else◌, Option, None, Some}
use Rattle.sctp_model.specs.sender.Abandoning.{worn}
use Rattle.sctp_model.specs.end.Misses.{is_missed}
use Rattle.sctp_model.specs.end.Pacing.{Pace}
use Rattle.sctp_model.specs.end.EndView.{EndView}
use Rattle.sctp_model.specs.end.Closing.{hears}
use Rattle.sctp_model.specs.end.Moments.{after_abandoning}

-- the number below which an index must have gone out to be missed (`Misses`); an endpoint without a pace misses none
abbrev pub missed_below : Option Pace → ℕ
missed_below None = 0
missed_below (Some p) = p.misses.third

-- If that has risen from `from`, an open endpoint abandons the messages of the fragments that are missed, and may not be retransmitted again.
abbrev pub worn_since : Option Pace → (from : ℕ) → EndView → EndView
worn_since None from e = e
worn_since (Some p) from e =
    if nat_lt from p.misses.third && hears (λ g. true) e.phase then after_abandoning e (worn (is_missed p.misses) e.sender) else e

-- the endpoint after the chunks of a packet; `from` is what `missed_below` was before them
abbrev pub wearing : (from : ℕ) → EndView → EndView
wearing from e = worn_since e.pace from e
