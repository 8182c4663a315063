use Rattle.sctp_recv.specs.StandsFor.{StandsFor}
use Rattle.sctp_recv.proofs.laws.stands_for_ordinary.Goals as goal

pub returns : goal.returns
unfolding StandsFor
returns g c = λ r v w. record { apart = w.0.apart; recorded = w.0.recorded }
