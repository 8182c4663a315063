use Rattle.sctp_association.proofs.FollowLemmas.{over_acked}
use Rattle.sctp_association.proofs.peer.responding.is_over.Goals as goal

pub returns-then-acked : goal.returns-then-acked
returns-then-acked c = λ f u r stands covers. over_acked u _ c.args.acked c.if-acked.true covers
