use Rattle.sctp_safety.proofs.runs.Safety.{nothing_waits as it}
use Rattle.sctp_safety.proofs.two_ends.nothing_waits_once_completed.Goals as goal

pub returns : goal.returns
returns c = it
