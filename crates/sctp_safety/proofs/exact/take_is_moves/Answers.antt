use Rattle.sctp_safety.proofs.receiving.SackMade.{take_is_moves as it}
use Rattle.sctp_safety.proofs.exact.take_is_moves.Goals as goal

pub returns : goal.returns
returns c = it
