use Rattle.sctp_association.specs.MachineStands.{MachineStands}
use Rattle.sctp_association.proofs.MachineLemmas.{joined, unjoined}
use Rattle.sctp_association.proofs.DelayLemmas.{no_gap}
use Rattle.sctp_association.proofs.machine.Machine.has_gap.Goals as goal

pub returns-in-Unjoined : goal.returns-in-Unjoined
unfolding MachineStands
returns-in-Unjoined c = λ v stands. no_gap v.receiver _ _ (unjoined _ _ v c.in-Unjoined.is stands).receiver

pub returns-in-Joined : goal.returns-in-Joined
unfolding MachineStands
returns-in-Joined c = λ v stands. c.has_gap.ensures _ v.sender v.receiver (joined _ _ v c.in-Joined.is stands).traffic
