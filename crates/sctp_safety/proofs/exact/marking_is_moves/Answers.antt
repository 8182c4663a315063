use Rattle.sctp_safety.proofs.sending.GivingMoves.{marking_is_moves as it}
use Rattle.sctp_safety.proofs.exact.marking_is_moves.Goals as goal

pub returns : goal.returns
returns c = it
