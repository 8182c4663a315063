use Rattle.std.proofs.Common.{ap, sym}
use Rattle.sctp_model.specs.sender.SenderView.{SenderView}
use Rattle.sctp_association.specs.MachineStands.{MachineStands}
use Rattle.sctp_association.proofs.MachineLemmas.{joined, unjoined}
use Rattle.sctp_association.proofs.machine.Machine.outgoing.Goals as goal

pub returns-in-Unjoined : goal.returns-in-Unjoined
unfolding MachineStands
returns-in-Unjoined c = λ v stands. sym (ap (λ (s : SenderView). s.streams) (unjoined _ _ v c.in-Unjoined.is stands).sender)

pub returns-in-Joined : goal.returns-in-Joined
unfolding MachineStands
returns-in-Joined c = λ v stands. c.outbound.ensures _ v.sender v.receiver (joined _ _ v c.in-Joined.is stands).traffic
