use Rattle.sctp_outcomes.proofs.stories.Arrival.{a_message_arrives as it}
use Rattle.sctp_outcomes.proofs.examples.a_message_arrives.Goals as goal

pub returns : goal.returns
returns c = it
