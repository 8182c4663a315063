use Rattle.sctp_safety.proofs.moves.Built.{passing_is_moves as it}
use Rattle.sctp_safety.proofs.exact.passing_is_moves.Goals as goal

pub returns : goal.returns
returns c = it
