use Rattle.sctp_association.specs.MachineStands.{MachineStands}
use Rattle.sctp_association.proofs.MachineLemmas.{with_both}
use Rattle.sctp_association.proofs.MomentLemmas.{settled_due, kept_in}
use Rattle.sctp_association.proofs.machine.Machine.settle.Goals as goal

pub returns : goal.returns
unfolding MachineStands
returns c = λ v stands.
    with_both _ v _ _ _ _ stands (settled_due _ v.due _ _ (c.settle.ensures v.due stands.due) (c.is_point_past-past.ensures v stands))
    (kept_in _ _ _ _ _ c.stop_unless.ensures (c.unsettled-wanted.ensures v stands) stands.timers)
