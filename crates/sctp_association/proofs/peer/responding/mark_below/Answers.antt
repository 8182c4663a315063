use Rattle.sctp_model.specs.end.Misses.{is_missed}
use Rattle.sctp_association.proofs.peer.responding.mark_below.Goals as goal

pub returns-clause-lost : goal.returns-clause-lost
returns-clause-lost c = λ f s r p stands below. c.first_missed-lost.ensures f s r (is_missed p.misses) stands (λ i above flies. below i above)

pub returns-clause-marked : goal.returns-clause-marked
returns-clause-marked c = λ f s r p stands below. c.on_missed.ensures f s r (is_missed p.misses) stands (λ i above flies. below i above)
