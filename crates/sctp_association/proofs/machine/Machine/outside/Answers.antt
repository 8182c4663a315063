use Rattle.std.proofs.Common.{sym}
use Rattle.sctp_association.specs.MachineStands.{MachineStands}
use Rattle.sctp_association.proofs.machine.Machine.outside.Goals as goal

pub returns-clause-answers : goal.returns-clause-answers
unfolding MachineStands
returns-clause-answers c = λ v stands.
    record { at = record { configured = sym stands.configuration; now = sym stands.clock }; seal = c.listening_key.ensures v stands }
