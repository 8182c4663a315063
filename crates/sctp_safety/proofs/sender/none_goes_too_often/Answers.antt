use Rattle.sctp_safety.proofs.sending.SenderCalls.{none_goes_too_often as law}
use Rattle.sctp_safety.proofs.sender.none_goes_too_often.Goals as goal

pub returns : goal.returns
returns c = law
