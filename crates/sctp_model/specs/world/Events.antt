-- What may happen in the world, and what is reported of it.
use Rattle.std.specs.Prelude.{ℕ, suc, Bool, true, false, List, length, Option, None, Some}
use Rattle.sctp_model.specs.wire.Packet.{Packet, size_of_packet}
use Rattle.sctp_model.specs.world.Calls.{Call}
use Rattle.sctp_model.specs.receiver.ReceiverView.{Handed}
use Rattle.sctp_model.specs.receiver.ResetTaken.{old_waiting}
use Rattle.sctp_model.specs.sender.Abandoning.{AbandonAnswer}
use Rattle.sctp_model.specs.end.EndView.{Draw, EndView}
use Rattle.sctp_model.specs.end.Strays.{Verdict, Taken, Dropped, Answer}
use Rattle.sctp_model.specs.end.UserCalls.{SendAnswer, ShutdownAnswer, Shut, NotShut, ResetCall, Begun, NotAgreed, NoStream, AbortAnswer, Aborts, NoPeer}
use Rattle.sctp_model.specs.end.UserCalls.{TooLong}
use Rattle.sctp_model.specs.world.World.{Side, World, bag_of, with_packet}

-- ---- events

-- One constructor for each thing that can happen.
pub data Event : Type 0 where
  -- both endpoints are opened without a packet, each by its own random values, and given the other's
  OpenBoth : (of_a of_b : Draw) → Event
  -- the clock of one endpoint goes on to this time, in milliseconds, and the endpoint isn't notified; an endpoint is notified of the time of its clock
  Later : Side → ℕ → Event
  Moment : Side → Event
  -- both of these at both endpoints, to one time; the random values for packets that arrive later; the caller calls
  At : ℕ → Event
  Drawing Connect : Draw → Event
  -- an endpoint is asked for its next packet
  Build : Side → Event
  -- the n-th packet of an endpoint's bag arrives at the other one
  Deliver : Side → ℕ → Event
  -- a third party's packet arrives at this endpoint, as it reads; None if its bytes don't read
  Foreign : Side → Option Packet → Event
  -- the calls of an endpoint's user: a message, a ticket, a stream, nothing, the bytes of a reason
  Send : Side → Call → Event
  Abandon Take : Side → ℕ → Event
  -- a stream is to be reset; which stream did the peer reset
  Reset : Side → ℕ → Event
  WasReset : Side → Event
  Shutdown : Side → Event
  Abort : Side → List ℕ → Event

-- a packet arrives at an endpoint
abbrev pub brings_packet : Event → Bool
brings_packet (Deliver s n) = true
brings_packet (Foreign s p) = true
brings_packet e = false

-- ---- what is reported

-- Packets are reported by their number in the bag, from 1, and their length in bytes.
pub data Outcome : Type 0 where
  -- a call that has one refusal, for the state
  Done RefusedState : Outcome
  -- a packet was built, or none
  Sent : ℕ → ℕ → Outcome
  Quiet : Outcome
  -- a packet arrived: it acted, was answered by this one, or was dropped for this reason; or the bag has none of that number
  Acted Absent : Outcome
  Answered : ℕ → ℕ → Outcome
  NotActed : ℕ → Outcome
  -- what is reported to the user of a message: its ticket or why it is refused, its fate, the message itself
  Told : SendAnswer → Outcome
  Fate : AbandonAnswer → Outcome
  Message : Handed → Outcome
  NoMessage : Outcome
  -- there is no such stream; the stream that the peer reset, and how many of its messages that wait were delivered before that, or none
  NoSuchReset : Outcome
  ResetThere : ℕ → ℕ → Outcome
  NoReset : Outcome
  -- a reason too long for one packet
  AbortTooLong : Outcome

-- the number of the next packet of an endpoint's bag
abbrev pub next_number : World → Side → ℕ
next_number w s = suc (length (bag_of w s))

-- a packet that an endpoint answers with: reported by its place in that endpoint's own bag
abbrev pub answer_outcome : World → Side → Packet → Outcome
answer_outcome w s p = Answered (next_number w s) (size_of_packet p.chunks)

-- what is reported of a packet that arrived at an endpoint
abbrev pub told : World → Side → Verdict → Outcome
told w s (Answer p) = answer_outcome w s p
told w s (Dropped reason) = NotActed reason
told w s Taken = Acted

-- and its answer, if any, in the endpoint's bag
abbrev pub with_verdict : World → Side → Verdict → World
with_verdict w s (Answer p) = with_packet w s p
with_verdict w s (Dropped reason) = w
with_verdict w s Taken = w

-- what is reported of the user's abort
abbrev pub abort_told : World → Side → AbortAnswer → Outcome
abort_told w s (Aborts p) = answer_outcome w s p
abort_told w s NoPeer = RefusedState
abort_told w s TooLong = AbortTooLong

-- and its ABORT, if any, in the endpoint's bag
abbrev pub with_abort : World → Side → AbortAnswer → World
with_abort w s (Aborts p) = with_packet w s p
with_abort w s NoPeer = w
with_abort w s TooLong = w

-- what is reported of the user's shutdown
abbrev pub shutdown_told : ShutdownAnswer → Outcome
shutdown_told Shut = Done
shutdown_told NotShut = RefusedState

-- what is reported of the user's reset
abbrev pub reset_told : ResetCall → Outcome
reset_told Begun = Done
reset_told NotAgreed = RefusedState
reset_told NoStream = NoSuchReset

-- what is reported of the peer's resets
abbrev pub resets_told : EndView → Option ℕ → Outcome
resets_told e (Some s) = ResetThere s (old_waiting e.receiver s)
resets_told e None = NoReset

-- what is reported of taking a message
abbrev pub message_told : Option Handed → Outcome
message_told (Some h) = Message h
message_told None = NoMessage
