use Rattle.sctp_outcomes.proofs.Reserved.{next_is_taken}
use Rattle.sctp_outcomes.proofs.views.the_next_chunk_is_never_refused.Goals as goal

pub returns : goal.returns
returns c = next_is_taken
