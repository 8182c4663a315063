-- What an end answers to building its next packet, and what that leaves (RFC 9260, 6.10).
use Rattle.std.specs.Prelude.{◌≡◌, ◌≤◌, List, [], length, map, Option, Some, None}
use Rattle.sctp_model.specs.wire.Chunk.{ChunkMeaning}
use Rattle.sctp_model.specs.wire.Packet.{size_of_packet}
use Rattle.sctp_model.specs.sender.Filling.{newly_numbered}
use Rattle.sctp_model.specs.end.EndView.{EndView}
use Rattle.sctp_model.specs.end.Building.{Builds, packet_of}
use Rattle.sctp_packet.specs.PacketBytes.{WritesPacket}
use Rattle.sctp_association.specs.MachineStands.{MachineStands}
use Rattle.sctp_association.specs.Sends.{Sends}
use Rattle.sctp_association.specs.declared.build.Built.{Built}
use Rattle.sctp_association.specs.declared.machine.Machine.{Machine}

-- A packet of the chunks that the next packet holds, of which there are some, within the limit; the tickets are those newly numbered, by first TSN, and
-- the sendings those of its user data.
pub record IsBuilt (e : EndView) (b : Built) (m : Machine) : Type 0 where
  pub chunks : List ChunkMeaning
  pub after : EndView
  pub builds : Builds e chunks after
  pub some : chunks ≡ [] → ⊥
  pub packet : WritesPacket b.packet.items (packet_of e chunks)
  pub size : length b.packet.items ≡ size_of_packet chunks
  pub within : length b.packet.items ≤ e.configuration.limit
  pub tickets : map (λ t. t.0) b.tickets.items ≡ newly_numbered e.sender after.sender
  pub sendings : Sends e chunks b.sendings
  pub stands : MachineStands m after

-- There is a packet exactly where the next one holds a chunk.
abbrev pub BuildAnswer : EndView → Option Built → Machine → Type 0
BuildAnswer e None m = (after : EndView) × Builds e [] after × MachineStands m after
BuildAnswer e (Some b) m = IsBuilt e b m
