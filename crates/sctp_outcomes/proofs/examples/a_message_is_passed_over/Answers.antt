use Rattle.sctp_outcomes.proofs.stories.Abandoning.{a_message_is_passed_over as it}
use Rattle.sctp_outcomes.proofs.examples.a_message_is_passed_over.Goals as goal

pub returns : goal.returns
returns c = it
