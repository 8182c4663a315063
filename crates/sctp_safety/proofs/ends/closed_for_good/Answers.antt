use Rattle.sctp_safety.proofs.machine.DiagramRuns.{closed_for_good as it}
use Rattle.sctp_safety.proofs.ends.closed_for_good.Goals as goal

pub returns : goal.returns
returns c = it
