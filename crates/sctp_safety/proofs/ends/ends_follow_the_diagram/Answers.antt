use Rattle.sctp_safety.proofs.machine.DiagramRuns.{ends_follow_the_diagram as it}
use Rattle.sctp_safety.proofs.ends.ends_follow_the_diagram.Goals as goal

pub returns : goal.returns
returns c = it
