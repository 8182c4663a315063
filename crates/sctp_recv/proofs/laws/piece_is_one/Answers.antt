use Rattle.sctp_model.proofs.receiver.OneStep.{piece_only}
use Rattle.sctp_recv.proofs.laws.piece_is_one.Goals as goal

pub returns : goal.returns
returns c = piece_only
