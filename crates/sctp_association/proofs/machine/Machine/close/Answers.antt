use Rattle.sctp_association.specs.MachineStands.{MachineStands}
use Rattle.sctp_association.proofs.MachineLemmas.{closed_joined, closed_unjoined}
use Rattle.sctp_association.proofs.machine.Machine.close.Goals as goal

pub returns-in-Joined : goal.returns-in-Joined
unfolding MachineStands
returns-in-Joined c = λ v stands. closed_joined _ _ v c.args.why _ _ c.in-Joined.is stands c.clear.ensures c.stop_all.ensures

pub returns-in-Unjoined : goal.returns-in-Unjoined
unfolding MachineStands
returns-in-Unjoined c = λ v stands. closed_unjoined _ _ v c.args.why _ _ c.in-Unjoined.is stands c.clear.ensures c.stop_all.ensures
