-- Which events allocate. No allocation can fail in any other.
use Rattle.std.specs.Prelude.{◌≡◌, ◌&&◌, max, true, false, Some, slice_get}
use Rattle.sctp_model.specs.numbers.Lists.{item_at}
use Rattle.sctp_model.specs.wire.Packet.{Packet}
use Rattle.sctp_model.specs.sender.Readers.{abandoned}
use Rattle.sctp_model.specs.receiver.ReceiverView.{Handed}
use Rattle.sctp_model.specs.end.UserCalls.{Begun, reset_call}
use Rattle.sctp_model.specs.world.World.{Side, are_alike, World, end_of, bag_of, clock_of}
use Rattle.sctp_model.specs.world.Events.{Event, OpenBoth, Later, Moment, At, Drawing, Connect, Build, Deliver, Foreign, Send, Abandon, Take, Reset, WasReset, Shutdown, Abort}
use Rattle.sctp_pair.specs.Noted.{has_to_give_up}

-- Something grows in this world if the event happens: endpoints are made, if they may be; a log of what a time or a user abandons, or of a message
-- taken; a bag; an endpoint's table of resets, if one begins. A clock that goes on alone, random values, a call, the report of a reset and a shutdown
-- allocate nothing, nor does a packet that the bag doesn't have.
abbrev pub TakesMemory : World → Event → Type 0
TakesMemory w (OpenBoth x y) = (w.openable && are_alike w.a.configuration w.b.configuration) ≡ true
TakesMemory w (Later s m) = ⊥
TakesMemory w (Moment s) = has_to_give_up (end_of w s) (clock_of w s) ≡ true
TakesMemory w (At m) = (s : Side) × (has_to_give_up (end_of w s) (max (clock_of w s) m) ≡ true)
TakesMemory w (Drawing d) = ⊥
TakesMemory w (Connect d) = ⊥
TakesMemory w (Build s) = Unit {0}
TakesMemory w (Deliver s n) = (p : Packet) × (item_at (bag_of w s) n ≡ Some p)
TakesMemory w (Foreign s p) = Unit {0}
TakesMemory w (Send s c) = Unit {0}
TakesMemory w (Abandon s k) = abandoned (end_of w s).sender k ≡ false
TakesMemory w (Take s n) = (h : Handed) × (slice_get ((end_of w s).receiver.waiting n) 0 ≡ Some h)
TakesMemory w (Reset s n) = reset_call (end_of w s) n ≡ Begun
TakesMemory w (WasReset s) = ⊥
TakesMemory w (Shutdown s) = ⊥
TakesMemory w (Abort s r) = Unit {0}
