-- The meaning of a pair's events and outcomes, in the words of the model's world.
use Rattle.std.specs.Prelude.{ℕ, List, Option, None, Some, Result, Ok, Err}
use Rattle.sctp_model.specs.sender.Queueing as refusals
use Rattle.sctp_model.specs.end.UserCalls as calls
use Rattle.sctp_model.specs.world.World as world
use Rattle.sctp_model.specs.world.Events as meaning
use Rattle.sctp_values.specs.declared.no_memory.NoMemory.{NoMemory}
use Rattle.sctp_terms.specs.Meanings.{reason_code}
use Rattle.sctp_send.specs.SenderAnswers.{lane_for, answer_meaning}
use Rattle.sctp_recv.specs.HandedOf.{handed_of}
use Rattle.sctp_events.specs.declared.event.Side.{Side}
use Rattle.sctp_events.specs.declared.event.Side.TheVariants as side
use Rattle.sctp_events.specs.declared.event.Event.{Event}
use Rattle.sctp_events.specs.declared.event.Event.TheVariants.{Open, Later, Moment, At, Drawing, Connect, Build, Deliver, Foreign, Send, SendWithMaxRetransmits, Abandon, Take, Reset, WasReset, Shutdown, Abort}
use Rattle.sctp_events.specs.declared.outcome.Refusal.{Refusal}
use Rattle.sctp_events.specs.declared.outcome.Refusal.TheVariants as refusal
use Rattle.sctp_events.specs.declared.outcome.Outcome.{Outcome}
use Rattle.sctp_events.specs.declared.outcome.Outcome.TheVariants as outcome

-- an endpoint
abbrev pub side_meaning : Side → world.Side
side_meaning side.A = world.A
side_meaning side.B = world.B

-- ---- events

-- What an event asks for: an event of the model; or that a third party's bytes, whatever they are, arrive at an endpoint.
pub data Wanted : Type 0 where
  Happens : (event : meaning.Event) → Wanted
  BringsBytes : (to : world.Side) → (bytes : List ℕ) → Wanted

-- what an event asks for
abbrev pub event_meaning : Event → Wanted
event_meaning (Open a b) = Happens (meaning.OpenBoth a b)
event_meaning (Later x moment) = Happens (meaning.Later (side_meaning x) moment)
event_meaning (Moment x) = Happens (meaning.Moment (side_meaning x))
event_meaning (At moment) = Happens (meaning.At moment)
event_meaning (Drawing draw) = Happens (meaning.Drawing draw)
event_meaning (Connect draw) = Happens (meaning.Connect draw)
event_meaning (Build x) = Happens (meaning.Build (side_meaning x))
event_meaning (Deliver x number) = Happens (meaning.Deliver (side_meaning x) number)
event_meaning (Foreign x bytes) = BringsBytes (side_meaning x) bytes.items
event_meaning (Send x stream ordered payload bytes until) =
    Happens (meaning.Send (side_meaning x) (record { lane = lane_for stream ordered; payload = payload; bytes = bytes.items; until = until; limit = None }))
event_meaning (SendWithMaxRetransmits x stream ordered payload bytes until limit) =
    Happens (meaning.Send (side_meaning x) (record { lane = lane_for stream ordered; payload = payload; bytes = bytes.items; until = until; limit = Some limit }))
event_meaning (Abandon x ticket) = Happens (meaning.Abandon (side_meaning x) ticket.0)
event_meaning (Take x stream) = Happens (meaning.Take (side_meaning x) stream)
event_meaning (Reset x stream) = Happens (meaning.Reset (side_meaning x) stream)
event_meaning (WasReset x) = Happens (meaning.WasReset (side_meaning x))
event_meaning (Shutdown x) = Happens (meaning.Shutdown (side_meaning x))
event_meaning (Abort x reason) = Happens (meaning.Abort (side_meaning x) reason.items)

-- ---- outcomes

-- why a call is refused
abbrev pub refusal_meaning : Refusal → meaning.Outcome
refusal_meaning refusal.State = meaning.RefusedState
refusal_meaning refusal.ReasonTooLong = meaning.AbortTooLong
refusal_meaning refusal.NoSuchReset = meaning.NoSuchReset
refusal_meaning refusal.NotOpen = meaning.Told calls.NotOpen
refusal_meaning refusal.NoSuchStream = meaning.Told (calls.Refused refusals.NoSuchStream)
refusal_meaning refusal.Resetting = meaning.Told (calls.Refused refusals.Resetting)
refusal_meaning refusal.Empty = meaning.Told (calls.Refused refusals.Empty)
refusal_meaning refusal.TooLong = meaning.Told (calls.Refused refusals.TooLong)
refusal_meaning refusal.QueueFull = meaning.Told (calls.Refused refusals.QueueFull)
refusal_meaning refusal.Spent = meaning.Told (calls.Refused refusals.Spent)

-- what an outcome says
abbrev pub outcome_meaning : Outcome → meaning.Outcome
outcome_meaning outcome.Done = meaning.Done
outcome_meaning (outcome.Refused why) = refusal_meaning why
outcome_meaning (outcome.Sent number length) = meaning.Sent number length
outcome_meaning outcome.Quiet = meaning.Quiet
outcome_meaning outcome.Taken = meaning.Acted
outcome_meaning (outcome.Dropped reason) = meaning.NotActed (reason_code reason)
outcome_meaning (outcome.Answer number length) = meaning.Answered number length
outcome_meaning outcome.Absent = meaning.Absent
outcome_meaning (outcome.Ticket ticket) = meaning.Told (calls.Ticket ticket.0)
outcome_meaning (outcome.Fate fate) = meaning.Fate (answer_meaning fate)
outcome_meaning (outcome.Message message) = meaning.Message (handed_of message)
outcome_meaning outcome.Empty = meaning.NoMessage
outcome_meaning (outcome.ResetThere stream count) = meaning.ResetThere stream count
outcome_meaning outcome.NoReset = meaning.NoReset

-- the answer of a result; a failed allocation is no answer
abbrev pub answer_of : Result Outcome NoMemory → Option meaning.Outcome
answer_of (Ok outcome) = Some (outcome_meaning outcome)
answer_of (Err _) = None
