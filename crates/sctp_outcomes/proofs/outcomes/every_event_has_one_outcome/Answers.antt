use Rattle.sctp_outcomes.proofs.OneOutcome.{outcomes_are_one as it}
use Rattle.sctp_outcomes.proofs.outcomes.every_event_has_one_outcome.Goals as goal

pub returns : goal.returns
returns c = it
