use Rattle.sctp_safety.proofs.sending.SenderCalls.{drained_is_told as law}
use Rattle.sctp_safety.proofs.sender.drained_is_told.Goals as goal

pub returns : goal.returns
returns c = law
