use Rattle.std.proofs.Common.{ap}
use Rattle.std.specs.Prelude.{Bool}
use Rattle.sctp_model.specs.end.EndView.{ResetAlarm}
use Rattle.sctp_model.specs.end.Reconfiguring.{in_progress}
use Rattle.sctp_association.specs.TimersMean.{timer_meaning}
use Rattle.sctp_association.specs.MachineStands.{MachineStands}
use Rattle.sctp_association.proofs.MachineLemmas.{at_view, with_timers}
use Rattle.sctp_association.proofs.HearingLemmas.{restarted_in}
use Rattle.sctp_association.proofs.machine.Machine.restart.Goals as goal

pub returns-then-answered : goal.returns-then-answered
unfolding MachineStands
returns-then-answered c = λ v stands.
    at_view _ _ _ (ap (λ (b : Bool). in_progress b v) c.if-answered.true) (with_timers _ v _ _ stands
    (restarted_in ResetAlarm _ _ _ (timer_meaning c.restarted-timer.result) (timer_meaning c.get.result) _ _ _ _ c.put.ensures c.restarted-timer.ensures c.get.ensures stands.timers
    stands.clock (c.asking_wait-wait.ensures v stands)))

pub returns-else-answered : goal.returns-else-answered
unfolding MachineStands
returns-else-answered c = λ v stands. at_view _ _ _ (ap (λ (b : Bool). in_progress b v) c.if-answered.false) stands
