use Rattle.sctp_safety.proofs.receiving.RestLaws.{nothing_more}
use Rattle.sctp_safety.proofs.rest.nothing_more_is_due.Goals as goal

pub returns : goal.returns
returns c = nothing_more
