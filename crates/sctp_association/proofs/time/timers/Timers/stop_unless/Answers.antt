use Rattle.std.proofs.Common.{◌∙◌, ap}
use Rattle.sctp_model.specs.end.EndView.{Timer}
use Rattle.sctp_model.specs.end.Clock.{replaced}
use Rattle.sctp_association.specs.TimersMean.{alarm_meaning, timers_meaning, kept_if}
use Rattle.sctp_association.proofs.time.timers.Timers.stop_unless.Goals as goal

-- put, then what is put, then what was got
pub returns : goal.returns
returns c = c.put.ensures
    ∙ ap (λ (t : Timer). replaced (alarm_meaning c.args.alarm) t (timers_meaning c.args.self.now)) c.kept_if.ensures
    ∙ ap (λ (t : Timer). replaced (alarm_meaning c.args.alarm) (kept_if c.args.wanted t) (timers_meaning c.args.self.now)) c.get.ensures
