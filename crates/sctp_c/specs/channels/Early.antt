-- Before an association, and before it is established (RFC 9260, 4), by the state that its user is told and how it ended.
use Rattle.std.specs.Prelude.{Bool, true, false, Option, Some, None}
use Rattle.sctp_model.specs.end.EndView.{Ended, Phase, State, Closed, Listen, CookieWait, CookieEchoed, InStage, state_of, ended_of}

-- there was no association yet
abbrev pub is_unjoined_in : State → Option Ended → Bool
is_unjoined_in Closed None = true
is_unjoined_in Closed (Some why) = false
is_unjoined_in Listen o = true
is_unjoined_in CookieWait o = true
is_unjoined_in CookieEchoed o = false
is_unjoined_in (InStage g) o = false

-- the association wasn't established yet
abbrev pub is_early_in : State → Option Ended → Bool
is_early_in Closed None = true
is_early_in Closed (Some why) = false
is_early_in Listen o = true
is_early_in CookieWait o = true
is_early_in CookieEchoed o = true
is_early_in (InStage g) o = false

-- .. at an end in this phase
abbrev pub is_unjoined : Phase → Bool
is_unjoined h = is_unjoined_in (state_of h) (ended_of h)

-- .. at an end in this phase
abbrev pub is_early : Phase → Bool
is_early h = is_early_in (state_of h) (ended_of h)
