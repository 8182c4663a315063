use Rattle.sctp_safety.proofs.plan.SkipLaw.{skip_law}
use Rattle.sctp_safety.proofs.laws.skip_law.Goals as goal

pub returns : goal.returns
returns c = skip_law
