-- Runs of two endpoints, from the start and without third parties, that show that the promises over every run aren't empty.
use Rattle.std.specs.Prelude.{◌≡◌, true, List, [], ◌∷◌, Some}
use Rattle.sctp_model.specs.numbers.Lists.{Has}
use Rattle.sctp_model.specs.messages.Format.{Plain, Interleaved, ordered_lane}
use Rattle.sctp_model.specs.messages.Plan.{End, entry_at}
use Rattle.sctp_model.specs.world.Calls.{Call}
use Rattle.sctp_model.specs.receiver.ReceiverView.{Handed, handed}
use Rattle.sctp_model.specs.end.EndView.{Draw, Completed, Over, format_of}
use Rattle.sctp_model.specs.world.World.{A, World, Setup}
use Rattle.sctp_model.specs.world.Events.{Event, OpenBoth, Deliver, Send, Abandon}
use Rattle.sctp_model.specs.world.Premises.{IsReachable}

-- the run that leads to a world
pub record IsRunTo (events : List Event) (last : World) : Type 0 where
  pub setup : Setup
  pub reached : IsReachable setup events last

-- A MESSAGE ARRIVES. Two endpoints open by packets (no `open`), A sends, B's user takes just that message, and both endpoints close, each completed.
pub record AMessageArrives : Type 0 where
  pub events : List Event
  pub last : World
  pub run : IsRunTo events last
  pub by_packets : (x y : Draw) → Has events (OpenBoth x y) → ⊥
  pub call : Call
  pub sent : Has events (Send A call)
  pub message : Handed
  pub taken : last.b.receiver.taken call.lane.stream ≡ message ∷ []
  pub bytes : message.bytes ≡ call.bytes
  pub payload : message.payload ≡ call.payload
  pub a : last.a.phase ≡ Over Completed
  pub b : last.b.phase ≡ Over Completed

-- A MESSAGE IS PASSED OVER, under DATA. The packet of a message is lost and A's user abandons it; the FORWARD-TSN arrives at B, which waits for it no
-- longer: the message that A sends then is delivered, as number 1 (RFC 3758, 3.5 and 3.6).
pub record AMessageIsPassedOver : Type 0 where
  pub events : List Event
  pub last : World
  pub run : IsRunTo events last
  pub plain : format_of last.a ≡ Plain
  pub first : Call
  pub second : Call
  pub sent : Has events (Send A first) × Has events (Send A second)
  pub lost : Has events (Deliver A 1) → ⊥
  pub named : Has events (Abandon A 1)
  pub abandoned : last.a.sender.abandoned (ordered_lane 0) 0 ≡ true
  pub message : Handed
  pub only : handed last.b.receiver 0 ≡ message ∷ []
  pub number : message.number ≡ Some 1
  pub bytes : message.bytes ≡ second.bytes
  pub passed : last.b.receiver.next 0 ≡ 2

-- A MESSAGE IN PART ENDS, under I-DATA. The first of two fragments went out and arrived at B, and A's user abandons the message: it takes one index more,
-- for its end mark, and B lets the fragment go (RFC 8260, 2.3.1).
pub record AMessageIsEnded : Type 0 where
  pub events : List Event
  pub last : World
  pub run : IsRunTo events last
  pub interleaved : format_of last.a ≡ Interleaved
  pub call : Call
  pub sent : Has events (Send A call)
  pub came : Has events (Deliver A 1)
  pub named : Has events (Abandon A 1)
  pub ended : entry_at last.a.sender.plan 2 ≡ Some (End (ordered_lane 0) 0)
  pub passed : last.b.receiver.next 0 ≡ 1
  pub gone : last.b.receiver.kept ≡ []
  pub nothing : handed last.b.receiver 0 ≡ []
