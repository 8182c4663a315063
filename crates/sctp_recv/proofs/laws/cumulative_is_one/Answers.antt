use Rattle.sctp_model.proofs.receiver.OneStep.{cumulative_only}
use Rattle.sctp_recv.proofs.laws.cumulative_is_one.Goals as goal

pub returns : goal.returns
returns c = cumulative_only
