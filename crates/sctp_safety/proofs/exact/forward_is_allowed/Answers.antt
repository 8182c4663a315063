use Rattle.sctp_safety.proofs.moves.Built.{forward_is_allowed as it}
use Rattle.sctp_safety.proofs.exact.forward_is_allowed.Goals as goal

pub returns : goal.returns
returns c = it
