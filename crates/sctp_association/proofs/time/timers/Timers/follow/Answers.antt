use Rattle.std.proofs.Common.{◌∙◌, ap}
use Rattle.sctp_model.specs.end.EndView as model
use Rattle.sctp_model.specs.end.EndView.{Timer}
use Rattle.sctp_model.specs.end.Clock.{replaced}
use Rattle.sctp_association.specs.TimersMean.{timers_meaning}
use Rattle.sctp_association.proofs.time.timers.Timers.follow.Goals as goal

pub returns : goal.returns
returns c = c.put.ensures ∙ ap (λ (t : Timer). replaced model.DataAlarm t (timers_meaning c.args.self.now)) c.followed-timer.ensures
