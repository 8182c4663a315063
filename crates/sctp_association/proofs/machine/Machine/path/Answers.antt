use Rattle.std.proofs.Common.{◌∙◌, ◌/◌, ap}
use Rattle.std.specs.Prelude.{Option, option_map}
use Rattle.sctp_model.specs.end.Trips.{Trips}
use Rattle.sctp_model.specs.end.Control.{Control}
use Rattle.sctp_model.specs.end.EndView.{Alarm, Timer, DataAlarm}
use Rattle.sctp_association.specs.MachineStands.{MachineStands}
use Rattle.sctp_association.proofs.CumLemmas.{pace_there, no_pace}
use Rattle.sctp_association.proofs.machine.Machine.path.Goals as goal

pub returns-in-None : goal.returns-in-None
unfolding MachineStands
returns-in-None c = λ v stands. no_pace _ _ _ v.pace c.in-None.is stands.pace

pub returns-in-Some : goal.returns-in-Some
unfolding MachineStands
returns-in-Some c = λ v stands.
    let there = pace_there _ _ _ c.in-Some.pace v.pace c.in-Some.is stands.pace in (
      there.0,
      there.1,
      record {
        srtt = c.srtt.ensures ∙ ap (λ (t : Trips). option_map (λ s. s.eight / 8) t.smoothed) there.2.trips;
        rttvar = c.rttvar.ensures ∙ ap (λ (t : Trips). option_map (λ s. s.four / 4) t.smoothed) there.2.trips;
        rto = ap (λ (t : Timer). t.wait) (c.get.ensures ∙ ap (λ (f : Alarm → Timer). f DataAlarm) stands.timers);
        cwnd = c.cwnd.ensures ∙ ap (λ (o : Option Control). option_map (λ k. k.cwnd) o) there.2.control;
        ssthresh = c.ssthresh.ensures ∙ ap (λ (o : Option Control). option_map (λ k. k.ssthresh) o) there.2.control;
      },
    )
