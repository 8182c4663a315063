use Rattle.sctp_safety.proofs.sending.SenderCalls.{abandoned_only_asked as law}
use Rattle.sctp_safety.proofs.sender.abandoned_only_asked.Goals as goal

pub returns : goal.returns
returns c = law
