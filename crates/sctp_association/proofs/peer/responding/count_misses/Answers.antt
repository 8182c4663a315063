use Rattle.std.proofs.Common.{arith}
use Rattle.sctp_association.proofs.peer.responding.count_misses.Goals as goal

pub returns : goal.returns
returns c = λ f v u r p stands before paces back.
    c.notice.ensures f u.cum v u p paces (omega arith) (record { cum = before.weight.cum; outside = before.weight.outside; inside = before.weight.inside })
    (record { those = back; highest = λ some. c.last_sent_for-last.ensures f u r stands some })
