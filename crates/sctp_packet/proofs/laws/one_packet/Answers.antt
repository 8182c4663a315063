use Rattle.sctp_packet.proofs.PacketLemmas.{packets_in_one_way}
use Rattle.sctp_packet.proofs.laws.one_packet.Goals as goal

pub returns : goal.returns
returns c = λ bytes. packets_in_one_way c.one_reading.ensures bytes
