-- Packets that are received and sent.
use Rattle.std.proofs.Common.{ℕ, length, Option, Result, Ok, Err}
use Rattle.std.specs.Prelude.{IfOk, OnErr}
use Rattle.sctp_model.specs.wire.Packet.{Packet}
use Rattle.sctp_model.specs.end.EndView.{Draw, EndView}
use Rattle.sctp_model.specs.end.Clock.{at_moment}
use Rattle.sctp_values.specs.declared.no_memory.NoMemory.{NoMemory}
use Rattle.sctp_endpoint.specs.EndpointStands.{EndpointStands}
use Rattle.sctp_endpoint.specs.Handled.{Handled}
use Rattle.sctp_endpoint.specs.Transmitted.{Transmits}
use Rattle.sctp_endpoint.specs.declared.after.Verdict.{Verdict}
use Rattle.sctp_endpoint.specs.declared.endpoint.Endpoint.{Endpoint}
use Rattle.sctp_endpoint.specs.declared.transmit.Sent.{Sent}
use Rattle.sctp_channels.specs.declared.channels.Channels.{Channels}
use Rattle.sctp_channels.specs.Streams.{Table}
use Rattle.sctp_channels.specs.Settling.{settled_all}
use Rattle.sctp_channels.specs.Packets.{StandNoted, Hears, Transmit}
use Rattle.sctp_channels.specs.ChannelsStand.{ChannelsStand, endpoint_of}

-- a packet was handled, and resets were noted
pub hears_as : (v : EndView) (x : Table) (now : ℕ) (d : Draw) (o : Option Packet) (r : Result Verdict NoMemory) (e : Endpoint) (c : Channels)
    → Handled v now d o r e → ((t : EndView) → EndpointStands e t → StandNoted t x c) → Hears v x now d o r c
hears_as v x now d o (Ok told) e c (t, k, receives, verdict, stands) noted = (t, k, receives, verdict, noted t stands)
hears_as v x now d o (Err why) e c (t, cut, stands, wants) noted = (t, cut, wants, noted t stands)

-- what was due was passed on, and a packet was sent
pub transmits_as : (v : EndView) (x : Table) (now : ℕ) (r : Result (Option Sent) NoMemory) (c : Channels)
    → IfOk r (λ (sent : Option Sent). Transmits (at_moment (settled_all v x).view now) sent (endpoint_of c))
    → OnErr r (EndpointStands (endpoint_of c) (settled_all v x).view) → ((t : EndView) → EndpointStands (endpoint_of c) t → ChannelsStand c t (settled_all v x).table) → Transmit v x now r c
transmits_as v x now (Ok sent) c went refused stands = (went, stands)
transmits_as v x now (Err why) c went refused stands = (length x.streams, stands _ refused)
