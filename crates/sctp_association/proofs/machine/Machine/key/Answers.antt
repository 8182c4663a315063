use Rattle.std.proofs.Common.{ap, subst}
use Rattle.sctp_model.specs.end.Opening.{seal_in}
use Rattle.sctp_association.specs.MachineStands.{RoleStands, MachineStands}
use Rattle.sctp_association.proofs.machine.Machine.key.Goals as goal

pub returns-in-Caller : goal.returns-in-Caller
unfolding MachineStands
returns-in-Caller c = λ v stands. ap seal_in (subst (λ r. RoleStands r v.role) c.in-Caller.is stands.role)

pub returns-in-Listener : goal.returns-in-Listener
unfolding MachineStands
returns-in-Listener c = λ v stands.
    let of = subst (λ r. RoleStands r v.role) c.in-Listener.is stands.role in
    (of.0, ap seal_in of.1, of.2)

pub returns-in-Paired : goal.returns-in-Paired
unfolding MachineStands
returns-in-Paired c = λ v stands. ap seal_in (subst (λ r. RoleStands r v.role) c.in-Paired.is stands.role)
