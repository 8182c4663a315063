use Rattle.std.proofs.Common.{ap, sym}
use Rattle.sctp_model.specs.receiver.ReceiverView.{ReceiverView, size_of_pieces}
use Rattle.sctp_association.specs.MachineStands.{MachineStands}
use Rattle.sctp_association.proofs.MachineLemmas.{joined, unjoined}
use Rattle.sctp_association.proofs.machine.Machine.reassembly_bytes.Goals as goal

pub returns-in-Unjoined : goal.returns-in-Unjoined
unfolding MachineStands
returns-in-Unjoined c = λ v stands. sym (ap (λ (x : ReceiverView). size_of_pieces x.kept) (unjoined _ _ v c.in-Unjoined.is stands).receiver)

pub returns-in-Joined : goal.returns-in-Joined
unfolding MachineStands
returns-in-Joined c = λ v stands. c.reassembly_bytes.ensures _ v.sender v.receiver (joined _ _ v c.in-Joined.is stands).traffic
