use Rattle.std.proofs.Common.{sym, subst}
use Rattle.sctp_congestion.specs.Highest.{AreTakenBack}
use Rattle.sctp_congestion.specs.PaceStands.{PaceKept, PaceStands, pace_room}
use Rattle.sctp_congestion.proofs.pacing.Pacing.notice.Goals as goal

pub returns : goal.returns
returns c = λ f cum v u p stands more highest back.
    let s = subst (λ (k : PaceKept). PaceStands f cum k p) (sym c.self.view_is) stands in
    let here = subst (λ (k : PaceKept). AreTakenBack v u (pace_room k) c.args.last c.args.back.now) (sym c.self.view_is) back in
    record { trips = s.trips; misses = c.hear.ensures cum v u p.misses s.misses more highest here; control = s.control; header = s.header }
