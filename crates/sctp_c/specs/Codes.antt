-- The numbers that C gets: results of calls, fates, states, ends.
use Rattle.std.specs.Prelude.{◌≡◌, ℕ, ◌⊎◌, ◌-◌, ◌^◌, ◌==◌, if◌then◌else◌, Option, Some, None, Result, Ok, Err}
use Rattle.sctp_model.specs.sender.Queueing as queueing
use Rattle.sctp_model.specs.sender.Abandoning as abandoning
use Rattle.sctp_model.specs.end.EndView as view
use Rattle.sctp_model.specs.end.UserCalls as calls
use Rattle.sctp_association.specs.declared.user.calls.Refused.{Refused}
use Rattle.sctp_association.specs.declared.user.calls.Refused.TheVariants.{NotOpen, Fault}
use Rattle.sctp_terms.specs.declared.calls.ResetFault.{ResetFault}
use Rattle.sctp_terms.specs.declared.calls.ResetFault.TheVariants as reset
use Rattle.sctp_send.specs.declared.queueing.SendFault.{SendFault}
use Rattle.sctp_send.specs.declared.queueing.SendFault.TheVariants as fault
use Rattle.sctp_c.specs.declared.codes.TheConstants.{OK, NO_SUCH_STREAM, EMPTY, TOO_LONG, QUEUE_FULL, RESETTING, SPENT, NO_MEMORY, NOT_OPEN, BAD_STATE}

-- ---- times

-- no time, as C says it: the last one that there is
abbrev pub NEVER : ℕ
NEVER = 2 ^ 64 - 1

-- the time that C passes in
abbrev pub moment_of : ℕ → Option ℕ
moment_of n = if n == NEVER then None else Some n

-- a time as C gets it
abbrev pub moment_code : Option ℕ → ℕ
moment_code None = NEVER
moment_code (Some n) = n

-- ---- results

-- the result of connect
abbrev pub connect_code : calls.ConnectAnswer → ℕ
connect_code calls.Called = OK
connect_code calls.NotIdle = BAD_STATE

-- the result of shutdown
abbrev pub shutdown_code : calls.ShutdownAnswer → ℕ
shutdown_code calls.Shut = OK
shutdown_code calls.NotShut = NOT_OPEN

-- the result of reset
abbrev pub reset_code : Result (Unit {0}) ResetFault → ℕ
reset_code (Ok done) = OK
reset_code (Err reset.State) = BAD_STATE
reset_code (Err reset.NoSuchStream) = NO_SUCH_STREAM
reset_code (Err reset.NoMemory) = NO_MEMORY

-- why a message is refused
abbrev pub refusal_code : queueing.Refusal → ℕ
refusal_code queueing.NoSuchStream = NO_SUCH_STREAM
refusal_code queueing.Empty = EMPTY
refusal_code queueing.TooLong = TOO_LONG
refusal_code queueing.QueueFull = QUEUE_FULL
refusal_code queueing.Spent = SPENT
refusal_code queueing.Resetting = RESETTING

-- why a message is refused, in the code's enum
abbrev pub fault_code : SendFault → ℕ
fault_code fault.NoSuchStream = NO_SUCH_STREAM
fault_code fault.Empty = EMPTY
fault_code fault.TooLong = TOO_LONG
fault_code fault.QueueFull = QUEUE_FULL
fault_code fault.Spent = SPENT
fault_code fault.Resetting = RESETTING
fault_code fault.NoMemory = NO_MEMORY

-- why send is refused: the association isn't established, or what is wrong with the message
abbrev pub refused_code : Refused → ℕ
refused_code NotOpen = NOT_OPEN
refused_code (Fault f) = fault_code f

-- The result of send: the endpoint's; or memory allocation failed.
abbrev pub IsSendCode : calls.SendAnswer → (code ticket : ℕ) → Type 0
IsSendCode (calls.Ticket t) n k = ((n ≡ OK) × (k ≡ t)) ⊎ (n ≡ NO_MEMORY)
IsSendCode (calls.Refused r) n k = (n ≡ refusal_code r) ⊎ (n ≡ NO_MEMORY)
IsSendCode calls.NotOpen n k = (n ≡ NOT_OPEN) ⊎ (n ≡ NO_MEMORY)

-- ---- numbers that name something

-- what has become of a message that is abandoned
abbrev pub fate_number : abandoning.AbandonAnswer → ℕ
fate_number abandoning.Withdrawn = 1
fate_number abandoning.Abandoned = 2
fate_number abandoning.Acknowledged = 3
fate_number abandoning.Unknown = 4
fate_number abandoning.Reliable = 5

-- the states (RFC 9260, 4)
abbrev pub state_number : view.State → ℕ
state_number view.Closed = 1
state_number view.Listen = 2
state_number view.CookieWait = 3
state_number view.CookieEchoed = 4
state_number (view.InStage view.Established) = 5
state_number (view.InStage view.ShutdownPending) = 6
state_number (view.InStage view.ShutdownSent) = 7
state_number (view.InStage view.ShutdownReceived) = 8
state_number (view.InStage view.ShutdownAckSent) = 9

-- the verification tag of an endpoint, 0 if it has none
abbrev pub tag_number : Option ℕ → ℕ
tag_number None = 0
tag_number (Some t) = t

-- how an association ended, 0 if it hasn't
abbrev pub ended_number : Option view.Ended → ℕ
ended_number None = 0
ended_number (Some view.Completed) = 1
ended_number (Some view.Aborted) = 2
ended_number (Some view.AbortedHere) = 3
ended_number (Some view.TimedOut) = 4
ended_number (Some view.StaleCookie) = 5
