use Rattle.sctp_association.specs.TimersMean.{alarm_meaning, timer_meaning}
use Rattle.sctp_association.specs.MachineStands.{MachineStands}
use Rattle.sctp_association.proofs.MachineLemmas.{with_timers}
use Rattle.sctp_association.proofs.HearingLemmas.{renewed_in}
use Rattle.sctp_association.proofs.machine.Machine.renew.Goals as goal

pub returns : goal.returns
unfolding MachineStands
returns c = λ v stands.
    with_timers _ v _ _ stands
    (renewed_in (alarm_meaning c.args.alarm) _ _ _ (timer_meaning c.renewed.result) (timer_meaning c.get-timer.result) _ _ _ c.args.moved c.put.ensures c.renewed.ensures c.get-timer.ensures stands.options.first_wait stands.timers stands.clock)
