use Rattle.sctp_safety.proofs.runs.Safety.{two_ends_are_safe as it}
use Rattle.sctp_safety.proofs.two_ends.two_ends_are_safe.Goals as goal

pub returns : goal.returns
returns c = it
