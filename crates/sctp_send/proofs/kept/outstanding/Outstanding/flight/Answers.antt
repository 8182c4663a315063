use Rattle.sctp_send.proofs.kept.WeightLemmas.{flight_bound}
use Rattle.sctp_send.proofs.kept.outstanding.Outstanding.flight.Goals as goal

pub returns-clause-bound : goal.returns-clause-bound
returns-clause-bound c = rw (← c.self.view_is) (flight_bound c.self.inside.size c.self.inside.entries.items c.self.invariant.counted.some c.self.invariant.counted.small)
