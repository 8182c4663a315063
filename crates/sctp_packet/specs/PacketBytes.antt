-- The bytes of a packet: the common header and the chunks behind it; and why bytes are no packet (RFC 9260, 3 and 3.1).
use Rattle.std.specs.Prelude.{◌≡◌, ℕ, ◌<◌, ◌≤◌, ◌^◌, List, [], ◌++◌, length, take, drop, replicate}
use Rattle.byteorder.specs.Endian.{big_bytes, little_bytes, little_number}
use Rattle.sctp_model.specs.wire.Packet.{Packet, HEADER_ROOM}
use Rattle.sctp_wire.specs.declared.fault.WireFault.{WireFault}
use Rattle.sctp_wire.specs.FaultTree.{moved}
use Rattle.sctp_wire.specs.Reads.{Reads}
use Rattle.sctp_wire.specs.Writes.{Writes}
use Rattle.sctp_wire.specs.FirstFault.{Faults}
use Rattle.sctp_packet.specs.Checksum.{crc32c}
use Rattle.sctp_packet.specs.declared.fault.PacketFault.{PacketFault}
use Rattle.sctp_packet.specs.declared.fault.PacketFault.TheVariants.{Short, Checksum, NoChunk, Wire}

-- the header: source port 16, destination port 16, verification tag 32, and a checksum 32 whose low byte comes first
abbrev pub header_bytes : (source destination tag sum : ℕ) → List ℕ
header_bytes source destination tag sum = big_bytes 2 source ++ (big_bytes 2 destination ++ (big_bytes 4 tag ++ little_bytes 4 sum))

-- a header with this checksum, and what stands behind it
abbrev pub with_sum : Packet → List ℕ → ℕ → List ℕ
with_sum p body sum = header_bytes p.source p.destination p.tag sum ++ body

-- the same with the right checksum: that of all bytes, where the field is zero (RFC 9260, 6.8)
abbrev pub packet_bytes : Packet → List ℕ → List ℕ
packet_bytes p body = with_sum p body (crc32c (with_sum p body 0))

-- ports have 16 bits, the tag 32
pub record IsHeader (p : Packet) : Type 0 where
  pub source : p.source < 2 ^ 16
  pub destination : p.destination < 2 ^ 16
  pub tag : p.tag < 2 ^ 32

-- the bytes are this packet: its header and at least one chunk
pub record ReadsPacket (bytes : List ℕ) (p : Packet) : Type 0 where
  pub body : List ℕ
  pub layout : bytes ≡ packet_bytes p body
  pub header : IsHeader p
  pub chunks : Reads body p.chunks
  pub some : p.chunks ≡ [] → ⊥

-- the bytes are those that are written for this packet
pub record WritesPacket (bytes : List ℕ) (p : Packet) : Type 0 where
  pub body : List ℕ
  pub layout : bytes ≡ packet_bytes p body
  pub header : IsHeader p
  pub chunks : Writes body p.chunks
  pub some : p.chunks ≡ [] → ⊥

-- ---- faults

-- bytes with zero in the checksum's field
abbrev pub without_sum : List ℕ → List ℕ
without_sum bytes = take 8 bytes ++ (replicate 4 0 ++ drop 12 bytes)

-- the checksum's field holds the checksum
abbrev pub IsChecked : List ℕ → Type 0
IsChecked bytes = little_number 4 (drop 8 bytes) ≡ crc32c (without_sum bytes)

-- the fault of the bytes: the first check that fails
abbrev pub FaultsPacket : List ℕ → PacketFault → Type 0
FaultsPacket bytes Short = length bytes < HEADER_ROOM
FaultsPacket bytes Checksum = (HEADER_ROOM ≤ length bytes) × (IsChecked bytes → ⊥)
FaultsPacket bytes NoChunk = (length bytes ≡ HEADER_ROOM) × IsChecked bytes
FaultsPacket bytes (Wire fault) =
    (HEADER_ROOM < length bytes) × IsChecked bytes × ((f : WireFault) × Faults (drop HEADER_ROOM bytes) f × (fault ≡ moved HEADER_ROOM f))
