use Rattle.std.proofs.Common.{◌≡◌, nat_lt, max, ℕ, sym, ap, ◌∙◌, subst}
use Rattle.std.specs.Prelude.{nat_le, ◌&&◌}
use Rattle.sctp_model.specs.end.Misses.{is_missed}
use Rattle.sctp_congestion.specs.Went.{went_at}
use Rattle.sctp_congestion.specs.PaceStands.{MissesKept, MissesStand}
use Rattle.sctp_congestion.proofs.MissLemmas.{missed_within}
use Rattle.sctp_congestion.proofs.misses.MissIndications.missed_end.Goals as goal

pub returns : goal.returns
returns c = λ cum from m stands low i above.
    let s = subst (λ (k : MissesKept). MissesStand cum k m) (sym c.self.view_is) stands in
    let end = c.max.ensures ∙ ap (λ (n : ℕ). max c.self.inside.third n) c.early_end.ensures in
    subst (λ (k : MissesKept). is_missed m i ≡ (nat_le from i && (nat_lt i c.max.result && nat_lt (went_at k.went i) k.third))) c.self.view_is
    (missed_within cum from i c.max.result _ m s low above end)
