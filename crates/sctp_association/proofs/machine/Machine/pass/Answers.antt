use Rattle.sctp_model.specs.end.Moments.{given_up, is_data_due}
use Rattle.sctp_association.specs.MachineStands.{MachineStands}
use Rattle.sctp_association.proofs.MachineLemmas.{at_view}
use Rattle.sctp_association.proofs.MomentLemmas.{rings_no_other}
use Rattle.sctp_association.proofs.machine.Machine.pass.Goals as goal

pub returns : goal.returns
unfolding MachineStands
returns c = λ v stands.
    let rung = c.expire_timer-6.ensures _ (c.expire_timer-5.ensures _ (c.expire_timer-4.ensures _ (c.expire_timer-3.ensures _ (c.expire_timer-2.ensures _ (c.expire_timer.ensures _
    (c.when_abandoned.ensures v (given_up (is_data_due v) v.sender v.moment) (c.give_up.ensures v stands) (c.point-before.ensures v stands))))))) in
    c.wait_over.ensures _ (at_view _ _ _ (rings_no_other _ _ rung) rung)
