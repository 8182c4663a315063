-- What a packet that was read says.
use Rattle.sctp_model.specs.wire.Packet as meaning
use Rattle.sctp_packet.specs.declared.read.Packet.{Packet}

-- its ports, its tag and its chunks
abbrev pub packet_meaning : Packet → meaning.Packet
packet_meaning p = record { source = p.source; destination = p.destination; tag = p.tag; chunks = p.chunks }
