use Rattle.std.proofs.Common.{subst, sym}
use Rattle.sctp_congestion.specs.PaceStands.{PaceKept, PaceStands}
use Rattle.sctp_congestion.proofs.pacing.Pacing.reserve.Goals as goal

pub returns-clause-same : goal.returns-clause-same
returns-clause-same c = λ f cum p stands.
    let s = subst (λ (k : PaceKept). PaceStands f cum k p) (sym c.self.view_is) stands in
    record { trips = s.trips; misses = c.reserve.ensures.same cum p.misses s.misses; control = s.control; header = s.header }
