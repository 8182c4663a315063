use Rattle.sctp_safety.proofs.sending.QueueMoves.{queue_is_moves as it}
use Rattle.sctp_safety.proofs.exact.queue_is_moves.Goals as goal

pub returns : goal.returns
returns c = it
