use Rattle.sctp_safety.proofs.runs.Safety.{nothing_is_missing as it}
use Rattle.sctp_safety.proofs.two_ends.nothing_is_missing_once_completed.Goals as goal

pub returns : goal.returns
returns c = it
