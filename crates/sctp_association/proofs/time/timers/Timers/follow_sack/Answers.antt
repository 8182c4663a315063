use Rattle.std.proofs.Common.{◌∙◌, ap}
use Rattle.sctp_model.specs.end.EndView as model
use Rattle.sctp_model.specs.end.EndView.{Timer}
use Rattle.sctp_model.specs.end.Clock.{replaced}
use Rattle.sctp_association.specs.TimersMean.{timers_meaning}
use Rattle.sctp_association.proofs.time.timers.Timers.follow_sack.Goals as goal

pub returns : goal.returns
returns c = λ moved anew. c.put.ensures ∙ ap (λ (t : Timer). replaced model.DataAlarm t (timers_meaning c.args.self.now)) (c.heard-timer.ensures moved anew)
