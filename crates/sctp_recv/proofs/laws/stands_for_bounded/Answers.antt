use Rattle.sctp_recv.specs.StandsFor.{StandsFor}
use Rattle.sctp_recv.proofs.laws.stands_for_bounded.Goals as goal

pub returns : goal.returns
unfolding StandsFor
returns g c = λ r v w. w.0.counts
