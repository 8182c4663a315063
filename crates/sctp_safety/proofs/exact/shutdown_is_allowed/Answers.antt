use Rattle.sctp_safety.proofs.moves.Built.{shutdown_is_allowed as it}
use Rattle.sctp_safety.proofs.exact.shutdown_is_allowed.Goals as goal

pub returns : goal.returns
returns c = it
