use Rattle.sctp_outcomes.proofs.TotalSteps.{events_have_outcomes as it}
use Rattle.sctp_outcomes.proofs.outcomes.every_event_has_an_outcome.Goals as goal

pub returns : goal.returns
returns c = it
