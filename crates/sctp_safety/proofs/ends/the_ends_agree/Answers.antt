use Rattle.sctp_safety.proofs.machine.EndsAgree.{ends_agree as it}
use Rattle.sctp_safety.proofs.ends.the_ends_agree.Goals as goal

pub returns : goal.returns
returns c = it
