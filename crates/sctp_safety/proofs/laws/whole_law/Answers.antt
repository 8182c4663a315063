use Rattle.sctp_safety.proofs.plan.WholeLaw.{whole_law}
use Rattle.sctp_safety.proofs.laws.whole_law.Goals as goal

pub returns : goal.returns
returns c = whole_law
