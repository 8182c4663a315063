use Rattle.std.proofs.Common.{ap}
use Rattle.sctp_model.specs.receiver.ReceiverView.{ReceiverView}
use Rattle.sctp_association.specs.MachineStands.{MachineStands}
use Rattle.sctp_association.proofs.MachineLemmas.{joined, unjoined}
use Rattle.sctp_association.proofs.machine.Machine.readable.Goals as goal

pub returns-in-Unjoined : goal.returns-in-Unjoined
unfolding MachineStands
returns-in-Unjoined c = λ v stands. λ q le. ap (λ (x : ReceiverView). x.waiting q) (unjoined _ _ v c.in-Unjoined.is stands).receiver

pub returns-in-Joined : goal.returns-in-Joined
unfolding MachineStands
returns-in-Joined c = λ v stands. c.readable.ensures _ v.sender v.receiver (joined _ _ v c.in-Joined.is stands).traffic
