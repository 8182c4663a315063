use Rattle.sctp_send.proofs.kept.WeightLemmas.{chunks_bound}
use Rattle.sctp_send.proofs.kept.outstanding.Outstanding.chunk_flight.Goals as goal

pub returns-clause-bound : goal.returns-clause-bound
returns-clause-bound c =
    let counted = c.self.invariant.counted in
    rw (← c.self.view_is) (chunks_bound c.self.inside.counts.header c.self.inside.size c.self.inside.entries.items counted.low counted.some counted.small)
