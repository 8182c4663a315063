use Rattle.sctp_outcomes.proofs.PlainRuns.{no_pace_unasked}
use Rattle.sctp_outcomes.proofs.views.no_end_gets_a_pace_unasked.Goals as goal

pub returns : goal.returns
returns c = no_pace_unasked
