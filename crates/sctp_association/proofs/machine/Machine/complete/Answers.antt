use Rattle.sctp_association.specs.MachineStands.{MachineStands}
use Rattle.sctp_association.proofs.machine.Machine.complete.Goals as goal

pub returns-clause-step : goal.returns-clause-step
unfolding MachineStands
returns-clause-step c = λ v stands. (rw stands.configuration at c.in_ok-packet.ensures.packet, c.close.ensures v stands)
