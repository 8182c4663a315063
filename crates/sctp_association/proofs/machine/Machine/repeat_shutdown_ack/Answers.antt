use Rattle.sctp_association.specs.MachineStands.{MachineStands}
use Rattle.sctp_association.proofs.MachineLemmas.{with_due}
use Rattle.sctp_association.proofs.machine.Machine.repeat_shutdown_ack.Goals as goal

pub returns : goal.returns
unfolding MachineStands
returns c = λ v stands. with_due _ v _ _ stands (c.owe_shutdown_ack.ensures v.due stands.due)
