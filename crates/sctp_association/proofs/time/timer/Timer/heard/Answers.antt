use Rattle.std.proofs.Common.{◌∙◌, ap}
use Rattle.sctp_model.specs.numbers.Limits.{FIRST_WAIT}
use Rattle.sctp_model.specs.end.EndView.{Timer}
use Rattle.sctp_association.specs.TimersMean.{timer_meaning, kept_if}
use Rattle.sctp_association.specs.Weighing.{followed}
use Rattle.sctp_association.proofs.FollowLemmas.{heard_anew}
use Rattle.sctp_association.proofs.time.timer.Timer.heard.Goals as goal

pub returns : goal.returns
returns c = λ moved anew.
    ap (λ (t : Timer). record t { repeats = 0 }) (c.followed.ensures ∙ ap (followed c.args.now c.args.rto c.args.restarts c.args.flies) c.kept_if.ensures)
    ∙ heard_anew FIRST_WAIT c.args.now c.args.rto c.args.restarts c.args.flies moved (kept_if c.args.wanted (timer_meaning c.args.self)) anew
