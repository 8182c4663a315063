-- Round trips: what the first measurement leaves of an endpoint with a pace.
use Rattle.std.proofs.Common.{◌≡◌, ℕ, false, sym, ap, ◌∙◌}
use Rattle.std.specs.Prelude.{Option, None, Some, option_map}
use Rattle.sctp_model.specs.end.EndView.{EndView, Alarm, DataAlarm, Timer, waits_of, format_for}
use Rattle.sctp_model.specs.end.Clock.{replaced, with_timer, timer_begun, measured}
use Rattle.sctp_model.specs.end.Pacing.{Pace, pace_begun, wait_begun}
use Rattle.sctp_congestion.specs.PaceStands.{PaceKept, PaceStands}
use Rattle.sctp_congestion.specs.Waits.{plain_waits}
use Rattle.sctp_association.specs.TimersMean.{timers_meaning}
use Rattle.sctp_association.specs.MachineStands.{KeepsMachine}
use Rattle.sctp_association.specs.declared.time.timers.Timers.{Timers}
use Rattle.sctp_association.specs.declared.machine.Machine.{Machine}
use Rattle.sctp_association.proofs.MachineLemmas.{at_view, with_timers, with_pace}
use Rattle.sctp_association.proofs.OptionLemmas.{waits_are}

-- an endpoint with a pace is set up for fast retransmit
pub asked : (m : Machine) (v : EndView) (p q : Pace) → KeepsMachine m v → v.pace ≡ Some p → v.configuration.fast_retransmit ≡ false → Some q ≡ None
asked m v p q k is off = let none = k.unpaced off in absurd (cc)

-- ---- the first measurement

-- at an endpoint with a pace
measured_some : (trip : Option ℕ) (wait : ℕ) (e : EndView) (p : Pace) → e.pace ≡ Some p
    → measured trip wait e ≡ record (with_timer DataAlarm (record (e.timers DataAlarm) { wait = wait_begun (waits_of e.configuration) wait (pace_begun trip p) }) e) { pace = Some (pace_begun trip p) }
measured_some trip wait e p is = λ i. record (with_timer DataAlarm (timer_begun (option_map (pace_begun trip) (is i)) (waits_of e.configuration) wait (e.timers DataAlarm)) e) {
  pace = option_map (pace_begun trip) (is i);
}

pub measured_there : (m : Machine) (v : EndView) (p : Pace) (q : PaceKept) (s : Timers) (trip : Option ℕ) (wait rto least : ℕ) → KeepsMachine m v → v.pace ≡ Some p
    → PaceStands (format_for v.terms.interleave) v.sender.cum q (pace_begun trip p) → rto ≡ wait_begun (plain_waits least) wait (pace_begun trip p) → least ≡ m.config.least_wait
    → timers_meaning s ≡ replaced DataAlarm (record (timers_meaning m.timers DataAlarm) { wait = rto }) (timers_meaning m.timers)
    → KeepsMachine (record m { pace = Some q; timers = s }) (measured trip wait v)
measured_there m v p q s trip wait rto least k there begun at config timers =
    let bounds : plain_waits least ≡ waits_of v.configuration = ap plain_waits (config ∙ ap (λ c. c.least_wait) k.configuration) ∙ sym (waits_are v.configuration k.options) in
    let rto_is : rto ≡ wait_begun (waits_of v.configuration) wait (pace_begun trip p) = at ∙ ap (λ w. wait_begun w wait (pace_begun trip p)) bounds in
    let f : Alarm → Timer = replaced DataAlarm (record (v.timers DataAlarm) { wait = wait_begun (waits_of v.configuration) wait (pace_begun trip p) }) v.timers in
    let same : timers_meaning s ≡ f = timers
    ∙ (ap (λ (g : Alarm → Timer). replaced DataAlarm (record (g DataAlarm) { wait = rto }) g) k.timers
    ∙ ap (λ (n : ℕ). replaced DataAlarm (record (v.timers DataAlarm) { wait = n }) v.timers) rto_is) in
    at_view _ _ _ (measured_some trip wait v p there) (with_pace _ _ (Some q) (Some (pace_begun trip p)) (with_timers m v s f k same) begun (asked m v p (pace_begun trip p) k there))
