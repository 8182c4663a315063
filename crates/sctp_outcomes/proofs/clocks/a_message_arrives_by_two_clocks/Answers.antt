use Rattle.sctp_outcomes.proofs.stories.TwoClocks.{a_message_arrives_by_two_clocks as it}
use Rattle.sctp_outcomes.proofs.clocks.a_message_arrives_by_two_clocks.Goals as goal

pub returns : goal.returns
returns c = it
