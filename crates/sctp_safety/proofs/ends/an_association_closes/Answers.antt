use Rattle.sctp_safety.proofs.machine.ClosingRun.{an_association_closes as it}
use Rattle.sctp_safety.proofs.ends.an_association_closes.Goals as goal

pub returns : goal.returns
returns c = it
