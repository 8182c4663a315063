-- Which runs are below an index, by the last run that begins by it.
use Rattle.std.proofs.Common.{◌≡◌, ℕ, zero, suc, ◌<◌, ◌≤◌, true, false, List, [], ◌∷◌, ◌++◌, length, get_or, take, drop, inl, inr, refl, sym, subst, arith}
use Rattle.std.proofs.lemmas.Bool.Decides.{nat_tests}
use Rattle.sctp_model.specs.numbers.Lists.{Has, AreInOrder}
use Rattle.sctp_recv.specs.declared.runs.SeenRun.{SeenRun}
use Rattle.sctp_recv.specs.Runs.{in_runs, IsApart, AreSpaced, lies_below, begins_by, IsPlace, AllBelow}
use Rattle.sctp_recv.proofs.ListOrder.{has_right, has_side, order_right, order_across}
use Rattle.sctp_recv.proofs.RunLemmas.{split, head_is, split_at, has_at, spaced_tail, in_none}

-- with a run all before it lie below
pub all_below : (rs : List SeenRun) (i k : ℕ) (x : SeenRun) → AreSpaced rs → k < length rs → x ≡ get_or rs k x → lies_below i x ≡ true → AllBelow i rs (suc k)
all_below [] i k x h l at low r here = absurd (omega (arith, l))
all_below (y ∷ rs) i zero x h l at low r (inl is) = subst (λ (z : SeenRun). lies_below i z ≡ true) is (subst (λ (z : SeenRun). lies_below i z ≡ true) at low)
all_below (y ∷ rs) i zero x h l at low r (inr none) = absurd none
all_below (y ∷ rs) i (suc k) x h l at low r (inl is) =
    let there : Has rs x = subst (Has rs) (sym at) (has_at rs k x (omega (arith, l))) in
    let gap = h.apart.0 x there in
    let some = h.some x (inr there) in
    subst (λ (z : SeenRun). lies_below i z ≡ true) is (grind (arith, gap, some, low, nat_tests))
all_below (y ∷ rs) i (suc k) x h l at low r (inr later) = all_below rs i k x (spaced_tail y rs h) (omega (arith, l)) at low r later

module _ (rs : List SeenRun) (i : ℕ) (h : AreSpaced rs) where
  has_back : (k : ℕ) (r : SeenRun) → Has (drop k rs) r → Has rs r
  has_back k r there = subst (λ (xs : List SeenRun). Has xs r) (split rs k) (has_right (take k rs) (drop k rs) r there)

  -- those that begin past the index don't
  pub none_past : (k : ℕ) → IsPlace (begins_by i) rs k → (r : SeenRun) → Has (drop k rs) r → lies_below i r ≡ false
  none_past k by r there = let late = by.back r there in let some = h.some r (has_back k r there) in grind (arith, late, some, nat_tests)

  module _ (k : ℕ) (x : SeenRun) (l : k < length rs) (at : x ≡ get_or rs k x) where
    order : AreInOrder IsApart (take k rs ++ x ∷ drop (suc k) rs)
    order = subst (AreInOrder IsApart) (sym (split_at rs k x l at)) h.apart

    -- where a run doesn't, none behind it does
    none_behind : lies_below i x ≡ false → (r : SeenRun) → Has (x ∷ drop (suc k) rs) r → lies_below i r ≡ false
    none_behind high r (inl is) = subst (λ (z : SeenRun). lies_below i z ≡ false) is high
    none_behind high r (inr later) =
        let gap = (order_right IsApart (take k rs) (x ∷ drop (suc k) rs) order).0 r later in
        let some = h.some r (has_back (suc k) r later) in
        grind (arith, gap, some, high, nat_tests)

    -- so its place is told by those before it
    pub place_at : AllBelow i rs k → lies_below i x ≡ false → IsPlace (lies_below i) rs k
    place_at low high = record { front = low; back = λ r there. none_behind high r (subst (λ (xs : List SeenRun). Has xs r) (head_is rs k x l at) there) }

    -- all before a run that begins at the index at the latest lie below it
    pub below_first : x.first ≤ i → AllBelow i rs k
    below_first le r here = let gap = order_across IsApart (take k rs) (x ∷ drop (suc k) rs) order r x here (inl refl) in grind (arith, gap, le, nat_tests)

-- the run before one that begins by the index begins at the index at the latest
pub place_before : (rs : List SeenRun) (i k : ℕ) (x y : SeenRun) → AreSpaced rs → suc k < length rs → x ≡ get_or rs k x → y ≡ get_or rs (suc k) y → begins_by i y ≡ true → lies_below i x ≡ false → IsPlace (lies_below i) rs k
place_before rs i k x y h l at next begins high = place_at rs i h k x less at (below_first rs i h k x less at first) high
  where
    less : k < length rs
    less = omega (arith, l)

    first : x.first ≤ i
    first =
        let there : Has (drop (suc k) rs) y = subst (λ (xs : List SeenRun). Has xs y) (sym (head_is rs (suc k) y l next)) (inl refl) in
        let gap = (order_right IsApart (take k rs) (x ∷ drop (suc k) rs) (subst (AreInOrder IsApart) (sym (split_at rs k x less at)) h.apart)).0 y there in
        let some = h.some x (subst (Has rs) (sym at) (has_at rs k x less)) in
        grind (arith, gap, some, begins, nat_tests)

-- an index between the runs below it and those that begin past it is in none
pub between : (rs : List SeenRun) (i k : ℕ) → AllBelow i rs k → IsPlace (begins_by i) rs k → in_runs rs i ≡ false
between rs i k low by = in_none rs i (λ r there. elim (has_side (take k rs) (drop k rs) r (subst (λ (xs : List SeenRun). Has xs r) (sym (split rs k)) there)) [
  | inl front ↦ (let below = low r front in grind (arith, below, nat_tests))
  | inr back ↦ (let late = by.back r back in grind (arith, late, nat_tests))
])
