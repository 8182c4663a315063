use Rattle.sctp_safety.proofs.sending.OrderlyCalls.{plan_stays_orderly as law}
use Rattle.sctp_safety.proofs.sender.plan_stays_orderly.Goals as goal

pub returns : goal.returns
returns c = law
