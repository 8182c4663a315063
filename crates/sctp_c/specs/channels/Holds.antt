-- Which state of the association and of the streams a handle of channels stands for, and which event waits in it.
use Rattle.std.specs.Prelude.{ℕ, Bool, Option, None, Some, Result}
use Rattle.sctp_model.specs.wire.Packet.{Packet}
use Rattle.sctp_model.specs.end.EndView.{Draw, EndView}
use Rattle.sctp_values.specs.declared.no_memory.NoMemory.{NoMemory}
use Rattle.sctp_values.specs.declared.ticket.Ticket.{Ticket}
use Rattle.sctp_dcep.specs.Content.{Content}
use Rattle.sctp_dcep.specs.Dcep.{Parameters, Reliability}
use Rattle.sctp_endpoint.specs.Counted.{Counted, counted, none_counted}
use Rattle.sctp_endpoint.specs.declared.after.Verdict.{Verdict}
use Rattle.sctp_channels.specs.declared.channels.Channels.{Channels}
use Rattle.sctp_channels.specs.declared.event.Event.{Event}
use Rattle.sctp_channels.specs.declared.fault.CloseFault.{CloseFault}
use Rattle.sctp_channels.specs.declared.fault.OpenFault.{OpenFault}
use Rattle.sctp_channels.specs.declared.fault.SendFault.{SendFault}
use Rattle.sctp_channels.specs.Answers.{Opens, OpensNegotiated, Sends, Closes}
use Rattle.sctp_channels.specs.ChannelsStand.{endpoint_of, ChannelsStand}
use Rattle.sctp_channels.specs.Events.{Reported, next_told}
use Rattle.sctp_channels.specs.Meanings.{event_meaning}
use Rattle.sctp_channels.specs.Packets.{Hears}
use Rattle.sctp_channels.specs.Streams.{Table}
use Rattle.sctp_channels.specs.Telling.{Tells}
use Rattle.sctp_c.specs.declared.channels.held.Held.{Held}

-- there are channels, and they stand for this state of the association and these streams
abbrev pub HoldsChannels : Option Held → EndView → Table → Type 0
HoldsChannels None v x = ⊥
HoldsChannels (Some h) v x = ChannelsStand h.channels v x

-- the event that C hasn't got since it didn't fit C's buffer
abbrev pub waiting_in : Option Held → Option Event
waiting_in None = None
waiting_in (Some h) = h.waiting

-- what is told next, and what is left: the event that waits, or else the channels' next
abbrev pub next_of : Option Event → EndView → Table → Reported
next_of None v x = next_told v x
next_of (Some event) v x = record { report = Some (event_meaning event); view = v; table = x }

-- what the endpoint below the channels counted
abbrev pub counted_of : Option Held → Counted
counted_of None = none_counted
counted_of (Some h) = counted (endpoint_of h.channels)

-- ---- what a call of the channels answered, and left in the handle

-- open
abbrev pub OpensIn : EndView → Table → Parameters → Option ℕ → Result ℕ OpenFault → Option Held → Type 0
OpensIn v x p o r None = ⊥
OpensIn v x p o r (Some h) = Opens v x p o r h.channels

-- open_negotiated
abbrev pub NegotiatesIn : EndView → Table → (ordered : Bool) → Reliability → (stream : ℕ) → Result (Unit {0}) OpenFault → Option Held → Type 0
NegotiatesIn v x ordered r s a None = ⊥
NegotiatesIn v x ordered r s a (Some h) = OpensNegotiated v x ordered r s a h.channels

-- send
abbrev pub SendsIn : EndView → Table → (now stream : ℕ) → Content → Result Ticket SendFault → Option Held → Type 0
SendsIn v x now s k r None = ⊥
SendsIn v x now s k r (Some h) = Sends v x now s k r h.channels

-- close
abbrev pub ClosesIn : EndView → Table → (stream : ℕ) → Result (Unit {0}) CloseFault → Option Held → Type 0
ClosesIn v x s r None = ⊥
ClosesIn v x s r (Some h) = Closes v x s r h.channels

-- handle_packet
abbrev pub HearsIn : EndView → Table → (now : ℕ) → Draw → Option Packet → Result Verdict NoMemory → Option Held → Type 0
HearsIn v x now d o r None = ⊥
HearsIn v x now d o r (Some h) = Hears v x now d o r h.channels

-- next_event
abbrev pub TellsIn : Reported → Option Event → Option Held → Type 0
TellsIn r event None = ⊥
TellsIn r event (Some h) = Tells r event h.channels

-- these channels, once something was handed back to them: they stand for all that they stood for
abbrev pub StandsAs : Channels → Option Held → Type 0
StandsAs c None = ⊥
StandsAs c (Some h) = (v : EndView) (x : Table) → ChannelsStand c v x → ChannelsStand h.channels v x
