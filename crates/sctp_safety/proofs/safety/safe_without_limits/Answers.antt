use Rattle.sctp_safety.proofs.runs.Unlimited.{safe_without_limits as it}
use Rattle.sctp_safety.proofs.safety.safe_without_limits.Goals as goal

pub returns : goal.returns
returns c = it
