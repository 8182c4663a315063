-- Which event of the world a pair's event is.
use Rattle.std.specs.Prelude.{◌≡◌, Option}
use Rattle.sctp_model.specs.wire.Packet.{Packet}
use Rattle.sctp_model.specs.world.Events as meaning
use Rattle.sctp_endpoint.specs.Handled.{IsRead}
use Rattle.sctp_events.specs.declared.event.Event.{Event}
use Rattle.sctp_events.specs.Events.{Wanted, Happens, BringsBytes, event_meaning}

-- The world's event that is asked for. A third party's bytes bring the packet as which they read, or none if they can't be read.
abbrev pub IsMeant : Wanted → meaning.Event → Type 0
IsMeant (Happens e) d = d ≡ e
IsMeant (BringsBytes s bytes) d = (p : Option Packet) × IsRead bytes p × (d ≡ meaning.Foreign s p)

-- the world's event that a pair's event is
abbrev pub Means : Event → meaning.Event → Type 0
Means event e = IsMeant (event_meaning event) e
