use Rattle.std.proofs.Common.{◌≡◌, ◌∙◌, ℕ, ap, sym}
use Rattle.std.specs.Prelude.{Option}
use Rattle.sctp_model.specs.numbers.Limits.{FIRST_WAIT}
use Rattle.sctp_model.specs.end.EndView.{Alarm, Timer, CookieAlarm, EndView}
use Rattle.sctp_model.specs.end.EndView as model
use Rattle.sctp_model.specs.end.Clock.{echo_trip, turned, measured}
use Rattle.sctp_model.proofs.PacedEnds.{unbeating}
use Rattle.sctp_association.specs.TimersMean.{timer_meaning}
use Rattle.sctp_association.specs.MachineStands.{MachineStands}
use Rattle.sctp_association.proofs.MachineLemmas.{at_view}
use Rattle.sctp_association.proofs.machine.Machine.establish.Goals as goal

pub returns : goal.returns
unfolding MachineStands
returns c = λ v t xs stands phase.
    let x : EndView = turned (model.Open t model.Established) v in
    let at : timer_meaning c.get-cookie.result ≡ v.timers CookieAlarm = c.get-cookie.ensures ∙ ap (λ (f : Alarm → Timer). f CookieAlarm) stands.timers in
    let trip : c.trip-trip.result ≡ echo_trip v.configuration.first_wait v.moment (v.timers CookieAlarm) =
    c.trip-trip.ensures
    ∙ (ap (λ (n : ℕ). echo_trip FIRST_WAIT n (timer_meaning c.get-cookie.result)) stands.clock
    ∙ (ap (echo_trip FIRST_WAIT v.moment) at ∙ ap (λ (n : ℕ). echo_trip n v.moment (v.timers CookieAlarm)) (sym stands.options.first_wait))) in
    at_view _ _ _ (unbeating (measured (echo_trip v.configuration.first_wait v.moment (v.timers CookieAlarm)) (v.timers CookieAlarm).wait x) stands.options.heartbeat
    ∙ (ap (λ (o : Option ℕ). measured o (v.timers CookieAlarm).wait x) (sym trip) ∙ ap (λ (y : Timer). measured c.trip-trip.result y.wait x) (sym at)))
    (c.measure.ensures x (c.enter_established.ensures v t xs stands phase))
