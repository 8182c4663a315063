use Rattle.std.proofs.Common.{◌≡◌, ◌∙◌, Bool, true, if◌then◌else◌, ap, sym, subst}
use Rattle.sctp_model.specs.sender.Resetting.{asked}
use Rattle.sctp_model.specs.end.EndView.{Alarm, Timer, ResetAlarm, unused_timer}
use Rattle.sctp_model.specs.end.Clock.{replaced}
use Rattle.sctp_model.specs.end.Reconfiguring.{asking_wait}
use Rattle.sctp_association.specs.Asks.{asks}
use Rattle.sctp_association.specs.TimersMean.{timer_meaning}
use Rattle.sctp_association.specs.MachineStands.{MachineStands}
use Rattle.sctp_association.proofs.MachineLemmas.{with_due, with_timers}
use Rattle.sctp_association.proofs.AskLemmas.{may_then, put_new}
use Rattle.sctp_association.proofs.machine.Machine.ask.Goals as goal

pub returns-then-not-asks-clause-asked : goal.returns-then-not-asks-clause-asked
returns-then-not-asks-clause-asked c = λ v stands. (sym c.if-not-asks.true ∙ c.asks.ensures v stands, stands)

pub returns-clause-asked : goal.returns-clause-asked
unfolding MachineStands
returns-clause-asked c = λ v stands.
    let on : true ≡ asks v = sym c.if-not-asks.false ∙ c.asks.ensures v stands in
    let made = subst (λ (b : Bool). MachineStands c.ask_sender.new.self (record v { sender = if b then asked v.sender else v.sender })) (may_then v on) (c.in_ok-request.ensures.step v stands) in
    let wait = c.asking_wait-wait.ensures (record v { sender = asked v.sender }) made in
    let due = with_due _ _ _ (record v.due { request = true }) made (c.owe_request.ensures v.due made.due) in
    let f : Alarm → Timer = replaced ResetAlarm (unused_timer (asking_wait v)) v.timers in
    (on, with_timers _ _ _ f due (put_new _ _ v.timers (timer_meaning c.waiting.result) _ _ c.put.ensures c.waiting.ensures wait made.timers))

pub returns-clause-before : goal.returns-clause-before
unfolding MachineStands
returns-clause-before c = λ v stands. record {
  due = stands.due.request;
  timer = c.get-timer.ensures ∙ ap (λ (f : Alarm → Timer). f ResetAlarm) stands.timers;
  request = λ may. c.in_ok-request.ensures.before v stands may;
}
