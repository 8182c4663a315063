use Rattle.sctp_safety.proofs.moves.Taken.{taking_is_moves as it}
use Rattle.sctp_safety.proofs.exact.taking_is_moves.Goals as goal

pub returns : goal.returns
returns c = it
