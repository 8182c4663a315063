use Rattle.sctp_pair.specs.Sides.{SideStands}
use Rattle.sctp_pair.proofs.hearing.make_ready.Goals as goal

pub returns-clause-listed : goal.returns-clause-listed
unfolding SideStands
returns-clause-listed c = λ v stands. c.in_ok-before.ensures v.end stands.end
