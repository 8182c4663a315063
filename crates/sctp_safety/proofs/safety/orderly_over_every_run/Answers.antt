use Rattle.sctp_safety.proofs.moves.Always.{orderly_always as it}
use Rattle.sctp_safety.proofs.safety.orderly_over_every_run.Goals as goal

pub returns : goal.returns
returns c = it
