-- The fields that are read from the first twelve bytes are those of the header that the bytes begin with.
use Rattle.std.proofs.Common.{◌≡◌, ℕ, ◌≤◌, List, [], length, drop, sym, ◌∙◌}
use Rattle.byteorder.specs.Endian.{big_number, little_number}
use Rattle.sctp_model.specs.wire.Packet.{Packet}
use Rattle.sctp_packet.specs.PacketBytes.{ReadsPacket}
use Rattle.sctp_packet.proofs.HeaderLemmas.{AreLow, header_back}
use Rattle.sctp_packet.proofs.PacketLemmas.{packet_parts}
use Rattle.sctp_endpoint.specs.Packets.{BeginsWith, IsHeaderOf}
use Rattle.sctp_endpoint.specs.declared.packets.PacketHeader.{PacketHeader}

pub header_begins : (h : PacketHeader) (bytes : List ℕ) → AreLow bytes → 12 ≤ length bytes → h.source ≡ big_number 2 bytes
    → h.destination ≡ big_number 2 (drop 2 bytes) → h.tag ≡ big_number 4 (drop 4 bytes) → BeginsWith bytes h
header_begins h bytes low long source destination tag =
    let p : Packet = record { source = h.source; destination = h.destination; tag = h.tag; chunks = [] } in
    record { sum = little_number 4 (drop 8 bytes); body = drop 12 bytes; layout = sym (header_back p bytes low long source destination tag) }

pub header_of : (h : PacketHeader) (bytes : List ℕ) (p : Packet) → ReadsPacket bytes p → h.source ≡ big_number 2 bytes
    → h.destination ≡ big_number 2 (drop 2 bytes) → h.tag ≡ big_number 4 (drop 4 bytes) → IsHeaderOf p h
header_of h bytes p reads source destination tag =
    let parts = packet_parts bytes p reads in
    record { source = source ∙ sym parts.source; destination = destination ∙ sym parts.destination; tag = tag ∙ sym parts.tag }
