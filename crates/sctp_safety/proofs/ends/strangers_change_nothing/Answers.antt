use Rattle.sctp_safety.proofs.machine.Strangers.{strangers_change_nothing as it}
use Rattle.sctp_safety.proofs.ends.strangers_change_nothing.Goals as goal

pub returns : goal.returns
returns c = it
