use Rattle.std.proofs.Common.{subst}
use Rattle.sctp_model.specs.end.EndView.{Configuration}
use Rattle.sctp_model.specs.end.PeerFaults.{packet_to, abort_for}
use Rattle.sctp_packet.specs.PacketBytes.{WritesPacket}
use Rattle.sctp_opening.specs.AckFaults.{cause_of}
use Rattle.sctp_association.specs.MachineStands.{MachineStands}
use Rattle.sctp_association.proofs.machine.Machine.refuse_ack.Goals as goal

pub returns-clause-step : goal.returns-clause-step
unfolding MachineStands
returns-clause-step c = λ v stands. (
  subst (λ (x : Configuration). WritesPacket c.in_ok-packet.packet.items (packet_to x c.args.tag (abort_for (cause_of c.args.fault)))) stands.configuration c.in_ok-packet.ensures.packet,
  c.close.ensures v stands,
)
