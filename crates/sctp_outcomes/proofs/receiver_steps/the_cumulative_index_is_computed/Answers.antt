use Rattle.sctp_outcomes.proofs.receiver.StepsLemmas.{cumulative_is}
use Rattle.sctp_outcomes.proofs.receiver_steps.the_cumulative_index_is_computed.Goals as goal

pub returns : goal.returns
returns c = cumulative_is
