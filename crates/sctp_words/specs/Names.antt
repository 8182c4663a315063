-- Names that are written.
use Rattle.std.specs.Prelude.{ℕ, List, Option, None, Some, codes, decimal}
use Rattle.sctp_model.specs.end.EndView.{State, Closed, Listen, CookieWait, CookieEchoed, InStage, Stage, Established, ShutdownPending, ShutdownSent, ShutdownReceived, ShutdownAckSent, Ended, Completed, Aborted, AbortedHere, TimedOut, StaleCookie}

-- a number, `-` if there is none
abbrev pub number_word : Option ℕ → List ℕ
number_word (Some n) = decimal n
number_word None = codes "-"

-- the name of a stage of an open association (RFC 9260, 4)
abbrev pub stage_word : Stage → List ℕ
stage_word Established = codes "Established"
stage_word ShutdownPending = codes "ShutdownPending"
stage_word ShutdownSent = codes "ShutdownSent"
stage_word ShutdownReceived = codes "ShutdownReceived"
stage_word ShutdownAckSent = codes "ShutdownAckSent"

-- a state's name
abbrev pub state_word : State → List ℕ
state_word Closed = codes "Closed"
state_word Listen = codes "Listen"
state_word CookieWait = codes "CookieWait"
state_word CookieEchoed = codes "CookieEchoed"
state_word (InStage stage) = stage_word stage

-- the name of how an association ended, `-` if it hasn't
abbrev pub end_word : Option Ended → List ℕ
end_word None = codes "-"
end_word (Some Completed) = codes "Completed"
end_word (Some Aborted) = codes "Aborted"
end_word (Some AbortedHere) = codes "AbortedHere"
end_word (Some TimedOut) = codes "TimedOut"
end_word (Some StaleCookie) = codes "StaleCookie"
