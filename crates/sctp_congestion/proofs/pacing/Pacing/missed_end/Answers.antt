use Rattle.std.proofs.Common.{◌≡◌, nat_lt, sym, subst}
use Rattle.std.specs.Prelude.{nat_le, ◌&&◌}
use Rattle.sctp_model.specs.end.Misses.{is_missed}
use Rattle.sctp_congestion.specs.PaceStands.{PaceKept, PaceStands, missed_at}
use Rattle.sctp_congestion.proofs.pacing.Pacing.missed_end.Goals as goal

pub returns : goal.returns
returns c = λ f cum from p stands low i above.
    let s = subst (λ (k : PaceKept). PaceStands f cum k p) (sym c.self.view_is) stands in
    subst (λ (k : PaceKept). is_missed p.misses i ≡ (nat_le from i && (nat_lt i c.missed_end.result && missed_at k i))) c.self.view_is
    (c.missed_end.ensures cum from p.misses s.misses low i above)
