-- Packets are received and sent, with what is noted and what is due of the channels (RFC 8831, 6.7; RFC 6525, 5.2.2).
use Rattle.std.specs.Prelude.{◌≡◌, ℕ, Option, Result, Ok, Err}
use Rattle.sctp_model.specs.wire.Packet.{Packet}
use Rattle.sctp_model.specs.end.EndView.{Draw, EndView}
use Rattle.sctp_model.specs.end.Strays as model
use Rattle.sctp_model.specs.end.Clock.{at_moment}
use Rattle.sctp_model.specs.end.Arriving.{Receives, IsCutShort, WantsNoMemory}
use Rattle.sctp_values.specs.declared.no_memory.NoMemory.{NoMemory}
use Rattle.sctp_endpoint.specs.EndpointStands.{EndpointStands}
use Rattle.sctp_endpoint.specs.Handled.{VerdictStands}
use Rattle.sctp_endpoint.specs.Transmitted.{Transmits}
use Rattle.sctp_endpoint.specs.declared.after.Verdict.{Verdict}
use Rattle.sctp_endpoint.specs.declared.transmit.Sent.{Sent}
use Rattle.sctp_channels.specs.declared.channels.Channels.{Channels}
use Rattle.sctp_channels.specs.Streams.{Table}
use Rattle.sctp_channels.specs.Settling.{settled_below, settled_all}
use Rattle.sctp_channels.specs.Events.{noted_and_swept}
use Rattle.sctp_channels.specs.ChannelsStand.{endpoint_of, ChannelsStand}

-- the endpoint, to which this was done, and its streams, on which each reset of the peer that wasn't told is noted; those that are closed without a channel are free
abbrev pub StandNoted : EndView → Table → Channels → Type 0
StandNoted t x c = ChannelsStand c (noted_and_swept t x).view (noted_and_swept t x).table

-- The endpoint received the packet as it does without channels, all of it or the chunks before a failed allocation; then each reset of the peer was noted.
abbrev pub Hears : EndView → Table → (now : ℕ) → Draw → Option Packet → Result Verdict NoMemory → Channels → Type 0
Hears v x now d o (Ok told) c = (t : EndView) × (k : model.Verdict) × Receives v now d o t k × VerdictStands told k × StandNoted t x c
Hears v x now d o (Err why) c = (t : EndView) × IsCutShort v now d o t × (WantsNoMemory v now d o → ⊥) × StandNoted t x c

-- What was due of the channels was passed to the endpoint, which then sent its next packet; or an allocation failed, and only what was due on the streams below some one was.
abbrev pub Transmit : EndView → Table → (now : ℕ) → Result (Option Sent) NoMemory → Channels → Type 0
Transmit v x now (Ok sent) c =
    Transmits (at_moment (settled_all v x).view now) sent (endpoint_of c) × ((t : EndView) → EndpointStands (endpoint_of c) t → ChannelsStand c t (settled_all v x).table)
Transmit v x now (Err why) c = (n : ℕ) × ChannelsStand c (settled_below n v x).view (settled_below n v x).table
