-- Runs from an index on, and how many runs there can be.
use Rattle.std.proofs.Common.{◌≡◌, ℕ, zero, suc, ◌+◌, ◌*◌, ◌<◌, ◌≤◌, ◌⊎◌, Bool, true, false, nat_le, max, List, [], ◌∷◌, ◌++◌, length, map, get_or, take, drop, inl, inr, refl, sym, ◌∙◌, ap, subst, arith}
use Rattle.std.specs.Prelude.{◌||◌}
use Rattle.std.proofs.lemmas.Bool.{cases_Bool}
use Rattle.std.proofs.lemmas.Bool.Decides.{nat_tests}
use Rattle.std.proofs.lemmas.Grind.{common_steps}
use Rattle.std.specs.List.{AllByRecursion}
use Rattle.sctp_model.specs.numbers.Limits.{WINDOW}
use Rattle.sctp_model.specs.numbers.Lists.{Has, AreInOrder}
use Rattle.sctp_wire.specs.Items.{IsBlock}
use Rattle.sctp_recv.specs.Blocks.{block_of_run}
use Rattle.sctp_recv.specs.declared.runs.SeenRun.{SeenRun}
use Rattle.sctp_recv.specs.Runs.{in_run, in_runs, IsApart, AreSpaced, AreRuns, begins_by, IsPlace}
use Rattle.sctp_recv.specs.SeenKept.{seen_of, AreWithin, IsAdvanced}
use Rattle.sctp_recv.proofs.ListOrder.{has_right, order_right, order_across}
use Rattle.sctp_recv.proofs.RunLemmas.{split_at, has_at, spaced_tail, in_none, in_parts, taken}

-- ---- from an index on

-- no run begins by it: it is where the cumulative index stops
pub advanced_none : (rs : List SeenRun) (i : ℕ) → AreSpaced rs → IsPlace (begins_by i) rs 0 → IsAdvanced i rs (seen_of i rs)
advanced_none rs i h place = record {
  runs = record { spaced = h; above = λ r there. let late = place.back r there in grind (arith, late, nat_tests) };
  past = omega arith;
  same = λ j. refl;
}

-- the last run that does is passed, where it reaches further
pub advanced_over : (rs : List SeenRun) (i k : ℕ) (x : SeenRun) → AreSpaced rs → k < length rs → x ≡ get_or rs k x → IsPlace (begins_by i) rs (suc k) → IsAdvanced i rs (seen_of (max x.last i) (drop (suc k) rs))
advanced_over rs i k x h l at place = record {
  runs = record {
    spaced = record { some = λ r there. h.some r (in_all r there); apart = (order_right IsApart (take k rs) (x ∷ drop (suc k) rs) order).1 };
    above = λ r there. let late = place.back r there in let gap = (order_right IsApart (take k rs) (x ∷ drop (suc k) rs) order).0 r there in grind (arith, late, gap, nat_tests);
  };
  past = omega arith;
  same = λ j. sym (ap (λ (b : Bool). nat_le j i || b) (ap (λ (xs : List SeenRun). in_runs xs j) (sym whole) ∙ in_parts (take k rs) (x ∷ drop (suc k) rs) j) ∙ passed j (in_runs (drop (suc k) rs) j) (cases_Bool (nat_le j i)));
}
  where
    whole : take k rs ++ x ∷ drop (suc k) rs ≡ rs
    whole = split_at rs k x l at

    order : AreInOrder IsApart (take k rs ++ x ∷ drop (suc k) rs)
    order = subst (AreInOrder IsApart) (sym whole) h.apart

    in_all : (r : SeenRun) → Has (drop (suc k) rs) r → Has rs r
    in_all r there = subst (λ (xs : List SeenRun). Has xs r) whole (has_right (take k rs) (x ∷ drop (suc k) rs) r (inr there))

    begins : begins_by i x ≡ true
    begins = place.front x (taken rs k x l at)

    -- above i none of the runs before is left
    none_before : (j : ℕ) → nat_le j i ≡ false → in_runs (take k rs) j ≡ false
    none_before j high = in_none (take k rs) j (λ q there. let gap = order_across IsApart (take k rs) (x ∷ drop (suc k) rs) order q x there (inl refl) in let b = begins in grind (arith, gap, b, high, nat_tests))

    passed : (j : ℕ) (later : Bool) → (nat_le j i ≡ true) ⊎ (nat_le j i ≡ false) → (nat_le j i || (in_runs (take k rs) j || (in_run x j || later))) ≡ (nat_le j (max x.last i) || later)
    passed j later (inl low) = let in_max : nat_le j (max x.last i) ≡ true = grind (arith, low, nat_tests) in rw (low, in_max) refl
    passed j later (inr high) =
        let none = none_before j high in
        let b = begins in
        let same : in_run x j ≡ nat_le j (max x.last i) = grind (arith, b, high, nat_tests, common_steps) in
        rw (high, none, same) refl

-- ---- how many there are

pub within_part : (n : ℕ) (r : SeenRun) (rs : List SeenRun) → AreWithin n (r ∷ rs) → AreWithin n rs
within_part n r rs within i there = within i (let t = there in grind (arith, t, common_steps))

pub ends_within : (n : ℕ) (rs : List SeenRun) → AreSpaced rs → AreWithin n rs → (r : SeenRun) → Has rs r → r.last ≤ n
ends_within n [] h within r there = absurd there
ends_within n (x ∷ xs) h within r (inl is) = let last : x.last ≡ r.last = ap (λ (y : SeenRun). y.last) is in let some = h.some x (inl refl) in let top = within x.last (grind (arith, some, nat_tests, common_steps)) in omega (arith, last, top)
ends_within n (x ∷ xs) h within r (inr there) = ends_within n xs (spaced_tail x xs h) (within_part n x xs within) r there

-- each run takes two indexes of the window at least, one of them missing
pub few : (c n : ℕ) (rs : List SeenRun) → AreRuns c rs → AreWithin n rs → c ≤ n → c + 2 * length rs ≤ n
few c n [] h within le = omega (arith, le)
few c n (x ∷ xs) h within le =
    let above = h.above x (inl refl) in
    let some = h.spaced.some x (inl refl) in
    let top = ends_within n (x ∷ xs) h.spaced within x (inl refl) in
    let rest = few x.last n xs (record { spaced = spaced_tail x xs h.spaced; above = h.spaced.apart.0 }) (within_part n x xs within) top in
    omega (arith, above, some, rest)

pub run_at : (c n : ℕ) (rs : List SeenRun) (k : ℕ) (r : SeenRun) → AreRuns c rs → AreWithin n rs → k < length rs → r ≡ get_or rs k r → (c < r.first) × (r.first ≤ r.last) × (r.last ≤ n)
run_at c n rs k r h within l at =
    let there = subst (Has rs) (sym at) (has_at rs k r l) in
    let above = h.above r there in
    (omega (arith, above), h.spaced.some r there, ends_within n rs h.spaced within r there)

-- ---- in a SACK

-- each run is a block of two offsets of 16 bits
pub told_in_range : (n c : ℕ) (rs : List SeenRun) → ((r : SeenRun) → Has rs r → (r.first ≤ r.last) × (r.last ≤ c + WINDOW)) → AllByRecursion IsBlock (map (block_of_run c) (take n rs))
told_in_range zero c [] each = tt
told_in_range zero c (r ∷ rs) each = tt
told_in_range (suc n) c [] each = tt
told_in_range (suc n) c (r ∷ rs) each = let ends = each r (inl refl) in ((omega (arith, ends), omega (arith, ends)), told_in_range n c rs (λ q there. each q (inr there)))

pub told_few : (n c : ℕ) (rs : List SeenRun) → length (map (block_of_run c) (take n rs)) ≤ n
told_few zero c [] = omega arith
told_few zero c (r ∷ rs) = omega arith
told_few (suc n) c [] = omega arith
told_few (suc n) c (r ∷ rs) = omega (arith, told_few n c rs)
