use Rattle.sctp_association.specs.MachineStands.{MachineStands}
use Rattle.sctp_association.proofs.MachineLemmas.{with_clock}
use Rattle.sctp_association.proofs.machine.Machine.advance_clock.Goals as goal

pub returns : goal.returns
unfolding MachineStands
returns c = λ v stands. with_clock _ v _ c.args.now stands c.max-self.ensures
