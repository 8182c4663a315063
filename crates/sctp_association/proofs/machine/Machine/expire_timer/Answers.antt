use Rattle.std.proofs.Common.{◌∙◌, ap, sym}
use Rattle.sctp_model.specs.end.EndView.{Alarm, Timer}
use Rattle.sctp_model.specs.end.Clock.{with_timer, expired_timer}
use Rattle.sctp_association.specs.TimersMean.{alarm_meaning, timer_meaning}
use Rattle.sctp_association.specs.MachineStands.{MachineStands}
use Rattle.sctp_association.proofs.MachineLemmas.{at_view, with_timers}
use Rattle.sctp_association.proofs.MomentLemmas.{ring_waits, ring_goes, put_in}
use Rattle.sctp_association.proofs.machine.Machine.expire_timer.Goals as goal

pub returns-then-not-is_over : goal.returns-then-not-is_over
unfolding MachineStands
returns-then-not-is_over c = λ v stands.
    let a = alarm_meaning c.args.alarm in
    let here = c.get-timer.ensures ∙ ap (λ (f : Alarm → Timer). f a) stands.timers in
    at_view _ _ _ (ring_waits a v _ (timer_meaning c.get-timer.result) stands.clock here (sym c.is_over.ensures ∙ c.if-not-is_over.true)) stands

pub returns-then-not-can_repeat : goal.returns-then-not-can_repeat
unfolding MachineStands
returns-then-not-can_repeat c = λ v stands.
    let a = alarm_meaning c.args.alarm in
    let here = c.get-timer.ensures ∙ ap (λ (f : Alarm → Timer). f a) stands.timers in
    at_view _ _ _ (ring_goes c.args.alarm v _ (timer_meaning c.get-timer.result) _ stands.options stands.clock here (sym c.is_over.ensures ∙ c.if-not-is_over.false) (sym c.can_repeat.ensures.answer ∙ c.if-not-can_repeat.true))
    (c.close.ensures v stands)

pub returns : goal.returns
unfolding MachineStands
returns c = λ v stands.
    let a = alarm_meaning c.args.alarm in
    let here = c.get-timer.ensures ∙ ap (λ (f : Alarm → Timer). f a) stands.timers in
    at_view _ _ _ (ring_goes c.args.alarm v _ (timer_meaning c.get-timer.result) _ stands.options stands.clock here (sym c.is_over.ensures ∙ c.if-not-is_over.false) (sym c.can_repeat.ensures.answer ∙ c.if-not-can_repeat.false))
    (c.resend.ensures (with_timer a (expired_timer v.configuration.longest_wait (v.timers a)) v)
    (with_timers _ v _ _ stands (put_in a _ _ _ (timer_meaning c.expired.result) (timer_meaning c.get-timer.result) _ c.put.ensures c.expired.ensures c.get-timer.ensures stands.options.longest_wait stands.timers)))
