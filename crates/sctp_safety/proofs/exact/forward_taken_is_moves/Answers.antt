use Rattle.sctp_safety.proofs.receiving.ForwardReads.{forward_taken_is_moves as it}
use Rattle.sctp_safety.proofs.exact.forward_taken_is_moves.Goals as goal

pub returns : goal.returns
returns c = it
