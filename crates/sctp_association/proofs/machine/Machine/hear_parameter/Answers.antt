use Rattle.std.proofs.Common.{sym, subst}
use Rattle.sctp_reconfig.specs.Meanings.{parameter_meaning}
use Rattle.sctp_reconfig.specs.declared.parameter.Parameter.{Parameter}
use Rattle.sctp_association.specs.Reconfigured.{responded}
use Rattle.sctp_association.specs.MachineStands.{MachineStands}
use Rattle.sctp_association.proofs.machine.Machine.hear_parameter.Goals as goal

pub returns-in-Response : goal.returns-in-Response
returns-in-Response c = λ v stands.
    subst (λ (p : Parameter). MachineStands c.hear_response.new.self (responded v (parameter_meaning p))) (sym c.in-Response.is) (c.hear_response.ensures v stands)
