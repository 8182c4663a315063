use Rattle.sctp_association.specs.MachineStands.{MachineStands}
use Rattle.sctp_association.proofs.MachineLemmas.{joined, unjoined}
use Rattle.sctp_association.proofs.ResetLemmas.{resetting_fresh}
use Rattle.sctp_association.proofs.machine.Machine.is_resetting.Goals as goal

pub returns-in-Unjoined : goal.returns-in-Unjoined
unfolding MachineStands
returns-in-Unjoined c = λ v stands. resetting_fresh v.sender _ _ c.args.stream (unjoined _ _ v c.in-Unjoined.is stands).sender

pub returns-in-Joined : goal.returns-in-Joined
unfolding MachineStands
returns-in-Joined c = λ v stands. c.is_resetting.ensures _ v.sender v.receiver (joined _ _ v c.in-Joined.is stands).traffic
