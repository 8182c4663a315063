use Rattle.std.proofs.Common.{◌∙◌, ap}
use Rattle.sctp_model.specs.numbers.Limits.{FIRST_WAIT}
use Rattle.sctp_model.specs.end.EndView as model
use Rattle.sctp_model.specs.end.EndView.{Timer}
use Rattle.sctp_model.specs.end.Clock.{renewed, replaced}
use Rattle.sctp_association.specs.StartsMean.{started_if}
use Rattle.sctp_association.specs.TimersMean.{timers_meaning}
use Rattle.sctp_association.proofs.time.timers.Timers.count.Goals as goal

-- put, then what is put
pub returns : goal.returns
returns c = c.put.ensures
    ∙ ap (λ (t : Timer). replaced model.DataAlarm t (timers_meaning c.args.self.now))
    (c.start_if.ensures ∙ ap (started_if c.args.flies c.args.now) (c.renewed-timer.ensures ∙ ap (renewed FIRST_WAIT c.args.now c.args.moved) c.kept_if.ensures))
