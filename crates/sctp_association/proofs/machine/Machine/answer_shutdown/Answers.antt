use Rattle.sctp_association.specs.MachineStands.{MachineStands}
use Rattle.sctp_association.proofs.MachineLemmas.{with_due}
use Rattle.sctp_association.proofs.machine.Machine.answer_shutdown.Goals as goal

pub returns : goal.returns
unfolding MachineStands
returns c = λ v t g stands phase. let now = c.turn.ensures v t g stands phase in with_due _ _ _ _ now (c.owe_shutdown_ack.ensures _ now.due)
