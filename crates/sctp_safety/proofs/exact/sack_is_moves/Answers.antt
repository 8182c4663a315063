use Rattle.sctp_safety.proofs.sending.SackMoves.{sack_is_moves as it}
use Rattle.sctp_safety.proofs.exact.sack_is_moves.Goals as goal

pub returns : goal.returns
returns c = it
