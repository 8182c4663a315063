-- What holds of the bytes of packets.
use Rattle.std.specs.Prelude.{◌≡◌, ℕ, ◌⊎◌, List}
use Rattle.sctp_model.specs.wire.Packet.{Packet}
use Rattle.sctp_model.specs.numbers.Numbers.{AreBytes}
use Rattle.sctp_packet.specs.declared.fault.PacketFault.{PacketFault}
use Rattle.sctp_packet.specs.PacketBytes.{ReadsPacket, FaultsPacket}

-- the bytes are at most one packet or have at most one fault, never both, and where they are bytes one of the two
pub record ReadInOneWay (bytes : List ℕ) : Type 0 where
  pub one_packet : (p q : Packet) → ReadsPacket bytes p → ReadsPacket bytes q → p ≡ q
  pub one_fault : (f g : PacketFault) → FaultsPacket bytes f → FaultsPacket bytes g → f ≡ g
  pub never_both : (p : Packet) (f : PacketFault) → ReadsPacket bytes p → FaultsPacket bytes f → ⊥
  pub one_of_them : AreBytes bytes → ((p : Packet) × ReadsPacket bytes p) ⊎ ((f : PacketFault) × FaultsPacket bytes f)
