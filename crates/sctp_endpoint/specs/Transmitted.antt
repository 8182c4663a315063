-- What an endpoint sends next, in terms of a view (RFC 9260, 6.10).
use Rattle.std.specs.Prelude.{◌≡◌, ℕ, ◌≤◌, List, [], length, map, Option, Some, None}
use Rattle.sctp_model.specs.wire.Chunk.{ChunkMeaning}
use Rattle.sctp_model.specs.wire.Packet.{size_of_packet}
use Rattle.sctp_model.specs.sender.Filling.{newly_numbered}
use Rattle.sctp_model.specs.end.EndView.{EndView}
use Rattle.sctp_model.specs.end.Building.{Builds, packet_of}
use Rattle.sctp_packet.specs.PacketBytes.{WritesPacket}
use Rattle.sctp_endpoint.specs.EndpointStands.{EndpointStands}
use Rattle.sctp_endpoint.specs.declared.transmit.Sent.{Sent}
use Rattle.sctp_endpoint.specs.declared.endpoint.Endpoint.{Endpoint}

-- A packet of the chunks that the next packet holds, of which there are some, within the limit; the tickets are those newly numbered, by first TSN.
pub record IsSent (v : EndView) (s : Sent) (e : Endpoint) : Type 0 where
  pub chunks : List ChunkMeaning
  pub after : EndView
  pub builds : Builds v chunks after
  pub some : chunks ≡ [] → ⊥
  pub packet : WritesPacket s.packet.items (packet_of v chunks)
  pub size : length s.packet.items ≡ size_of_packet chunks
  pub within : length s.packet.items ≤ v.configuration.limit
  pub tickets : map (λ t. t.0) s.tickets.items ≡ newly_numbered v.sender after.sender
  pub stands : EndpointStands e after

-- There is a packet exactly if the next one has a chunk.
abbrev pub Transmits : EndView → Option Sent → Endpoint → Type 0
Transmits v None e = (after : EndView) × Builds v [] after × EndpointStands e after
Transmits v (Some s) e = IsSent v s e

-- no packet begins more messages: 1,500 bytes less the common header, 20 for each (RFC 9260, 3 and 3.3.1)
abbrev pub MOST_TICKETS : ℕ
MOST_TICKETS = 74

-- It has no more tickets.
abbrev pub TellsFew : Option Sent → Type 0
TellsFew None = Unit {0}
TellsFew (Some s) = length s.tickets.items ≤ MOST_TICKETS
