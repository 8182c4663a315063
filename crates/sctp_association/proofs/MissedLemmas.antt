-- `give_up_missed`: what is missed, and may not be retransmitted again.
use Rattle.std.proofs.Common.{◌≡◌, ◌∙◌, ℕ, ◌<◌, ◌≤◌, nat_lt, Bool, true, false, refl, ap, subst, arith}
use Rattle.std.specs.Prelude.{Option, None, Some, nat_le, ◌&&◌, if◌then◌else◌}
use Rattle.std.proofs.lemmas.Bool.Decides.{nat_tests}
use Rattle.sctp_model.specs.messages.Format.{Format}
use Rattle.sctp_model.specs.sender.Abandoning.{worn}
use Rattle.sctp_model.specs.end.Misses.{is_missed}
use Rattle.sctp_model.specs.end.Pacing.{Pace}
use Rattle.sctp_model.specs.end.EndView.{EndView}
use Rattle.sctp_model.specs.end.Closing.{hears}
use Rattle.sctp_model.specs.end.Moments.{after_abandoning}
use Rattle.sctp_model.specs.end.Wearing.{missed_below, worn_since, wearing}
use Rattle.sctp_congestion.specs.PaceStands.{PaceKept, PaceStands, PacesStand}

-- nothing was missed since, or the association isn't open
pub wears_not : (from : ℕ) (v : EndView) (b c : Bool) → nat_lt from (missed_below v.pace) ≡ b → hears (λ g. true) v.phase ≡ c → (b && c) ≡ false → wearing from v ≡ v
wears_not from v b c some opens off = by v.pace some
  where
    by : (o : Option Pace) → nat_lt from (missed_below o) ≡ b → worn_since o from v ≡ v
    by None is = refl
    by (Some p) is =
        ap (λ (x : Bool). if x then after_abandoning v (worn (is_missed p.misses) v.sender) else v)
        (ap (λ (x : Bool). x && hears (λ g. true) v.phase) is ∙ (ap (λ (x : Bool). b && x) opens ∙ off))

-- something was
pub wears : (from : ℕ) (v : EndView) (p : Pace) → v.pace ≡ Some p → nat_lt from p.misses.third ≡ true → hears (λ g. true) v.phase ≡ true
    → wearing from v ≡ after_abandoning v (worn (is_missed p.misses) v.sender)
wears from v p pace some opens =
    ap (λ (o : Option Pace). worn_since o from v) pace
    ∙ ap (λ (x : Bool). if x then after_abandoning v (worn (is_missed p.misses) v.sender) else v) (ap (λ (x : Bool). x && hears (λ g. true) v.phase) some ∙ opens)

-- only a pace misses
pub missed_since : (o : Option Pace) (from : ℕ) → from < missed_below o → (p : Pace) × (o ≡ Some p) × (nat_lt from p.misses.third ≡ true)
missed_since None from is = absurd (omega (arith, is))
missed_since (Some p) from is = (p, refl, grind (arith, nat_tests))

pub off_left : (b c : Bool) → b ≡ false → (b && c) ≡ false
off_left b c is = ap (λ (x : Bool). x && c) is

pub off_right : (b c : Bool) → c ≡ false → (b && c) ≡ false
off_right true c is = is
off_right false c is = refl

pub none_since : (from below : ℕ) → below ≤ from → nat_lt from below ≡ false
none_since from below is = grind (arith, nat_tests)

-- none is in a range that ends before it
pub none_past : (from below i : ℕ) (says : Bool) → below ≤ i → (nat_le from i && (nat_lt i below && says)) ≡ false
none_past from below i says is = off_right (nat_le from i) (nat_lt i below && says) (off_left (nat_lt i below) says (none_since i below is))

-- ---- the pace of an end

pub pace_at : (f : Format) (cum : ℕ) (k : Option PaceKept) (q : PaceKept) (o : Option Pace) (p : Pace) → k ≡ Some q → o ≡ Some p → PacesStand f cum k o → PaceStands f cum q p
pace_at f cum k q o p here there s = subst (λ (x : Option PaceKept). PacesStand f cum x (Some p)) here (subst (PacesStand f cum k) there s)

pub pace_lacks : (f : Format) (cum : ℕ) (k : Option PaceKept) (o : Option Pace) (p : Pace) → k ≡ None → o ≡ Some p → PacesStand f cum k o → ⊥
pace_lacks f cum k o p here there s = subst (λ (x : Option PaceKept). PacesStand f cum x (Some p)) here (subst (PacesStand f cum k) there s)
