use Rattle.sctp_safety.proofs.moves.Built.{sack_is_allowed as it}
use Rattle.sctp_safety.proofs.exact.sack_is_allowed.Goals as goal

pub returns : goal.returns
returns c = it
