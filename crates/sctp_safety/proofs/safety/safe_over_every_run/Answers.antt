use Rattle.sctp_safety.proofs.moves.Always.{safe_always as it}
use Rattle.sctp_safety.proofs.safety.safe_over_every_run.Goals as goal

pub returns : goal.returns
returns c = it
