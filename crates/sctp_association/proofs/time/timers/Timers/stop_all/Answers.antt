use Rattle.std.proofs.Common.{◌≡◌, ◌∙◌, false, refl, ap}
use Rattle.sctp_model.specs.end.EndView.{Alarm, InitAlarm, CookieAlarm, DataAlarm, ShutdownAlarm, AckAlarm, ResetAlarm, BeatAlarm, GuardAlarm, Timer}
use Rattle.sctp_model.specs.end.Clock.{stopped, replaced}
use Rattle.sctp_association.specs.TimersMean.{timers_meaning, open_timers, resting}
use Rattle.sctp_association.proofs.time.timers.Timers.stop_all.Goals as goal

abbrev data_stopped : (Alarm → Timer) → Alarm → Timer
data_stopped f = replaced DataAlarm (stopped (f DataAlarm)) f

all_at : (f : Alarm → Timer) (a : Alarm) → data_stopped (open_timers false false false f) a ≡ resting f a
all_at f InitAlarm = refl
all_at f CookieAlarm = refl
all_at f DataAlarm = refl
all_at f ShutdownAlarm = refl
all_at f AckAlarm = refl
all_at f ResetAlarm = refl
all_at f BeatAlarm = refl
all_at f GuardAlarm = refl

pub returns : goal.returns
returns c = c.stop.ensures ∙ ap data_stopped c.keep_open.ensures ∙ (λ i a. all_at (timers_meaning c.args.self.now) a i)
