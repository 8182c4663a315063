use Rattle.sctp_outcomes.proofs.stories.Ending.{a_message_is_ended as it}
use Rattle.sctp_outcomes.proofs.examples.a_message_in_part_is_ended.Goals as goal

pub returns : goal.returns
returns c = it
