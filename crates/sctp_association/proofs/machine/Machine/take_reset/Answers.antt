use Rattle.sctp_association.specs.MachineStands.{MachineStands}
use Rattle.sctp_association.proofs.MachineLemmas.{joined, unjoined}
use Rattle.sctp_association.proofs.ResetLemmas.{none_told, told_answer, told_stands}
use Rattle.sctp_association.proofs.machine.Machine.take_reset.Goals as goal

pub returns-in-Unjoined-clause-answer : goal.returns-in-Unjoined-clause-answer
unfolding MachineStands
returns-in-Unjoined-clause-answer c = λ v stands. none_told v _ _ (unjoined _ _ v c.in-Unjoined.is stands).receiver

pub returns-in-Unjoined-clause-step : goal.returns-in-Unjoined-clause-step
returns-in-Unjoined-clause-step c = λ v stands. stands

pub returns-in-Joined-clause-answer : goal.returns-in-Joined-clause-answer
unfolding MachineStands
returns-in-Joined-clause-answer c = λ v stands. told_answer v _ _ c.take_reset.result (c.take_reset.ensures _ v.sender v.receiver (joined _ _ v c.in-Joined.is stands).traffic)

pub returns-in-Joined-clause-step : goal.returns-in-Joined-clause-step
unfolding MachineStands
returns-in-Joined-clause-step c = λ v stands.
    told_stands _ _ _ v c.take_reset.result c.in-Joined.is stands (c.take_reset.ensures _ v.sender v.receiver (joined _ _ v c.in-Joined.is stands).traffic)
