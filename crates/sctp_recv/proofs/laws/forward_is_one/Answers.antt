use Rattle.sctp_model.proofs.receiver.OneStep.{forward_only}
use Rattle.sctp_recv.proofs.laws.forward_is_one.Goals as goal

pub returns : goal.returns
returns c = forward_only
