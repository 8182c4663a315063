-- Runs that have one index more: it is alone, lengthens a run, or joins two.
use Rattle.std.proofs.Common.{◌≡◌, ℕ, zero, suc, ◌<◌, ◌≤◌, Bool, true, false, ◌==◌, nat_le, min, max, List, [], ◌∷◌, ◌++◌, length, get_or, take, drop, inl, inr, refl, sym, ◌∙◌, ap, subst, arith}
use Rattle.std.specs.Prelude.{◌&&◌, ◌||◌}
use Rattle.std.proofs.lemmas.Bool.{cases_lt}
use Rattle.std.proofs.lemmas.Bool.Decides.{nat_tests}
use Rattle.std.proofs.lemmas.Grind.{common_steps}
use Rattle.sctp_model.specs.numbers.Lists.{Has, AreInOrder}
use Rattle.sctp_recv.specs.declared.runs.SeenRun.{SeenRun}
use Rattle.sctp_recv.specs.Runs.{in_run, in_runs, IsApart, AreRuns, lies_below, begins_by, IsPlace, HaveMore}
use Rattle.sctp_recv.proofs.ListOrder.{has_left, has_right, has_side, order_left, order_right, order_across, order_join}
use Rattle.sctp_recv.proofs.RunLemmas.{split, head_is, split_at, in_parts, taken_before, taken, held_at}

-- runs in the middle give way to one that lies apart from those before and behind
module _ (c : ℕ) (front mid back : List SeenRun) (m : SeenRun) (h : AreRuns c (front ++ (mid ++ back))) (high : suc c < m.first) (some : m.first ≤ m.last)
    (before : (r : SeenRun) → Has front r → suc r.last < m.first) (behind : (r : SeenRun) → Has back r → suc m.last < r.first) where
  replaced : AreRuns c (front ++ m ∷ back)
  replaced = record { spaced = record { some = each; apart = apart }; above = above }
    where
      rest : AreInOrder IsApart back
      rest = order_right IsApart mid back (order_right IsApart front (mid ++ back) h.spaced.apart)

      in_old : (r : SeenRun) → Has back r → Has (front ++ (mid ++ back)) r
      in_old r there = has_right front (mid ++ back) r (has_right mid back r there)

      apart : AreInOrder IsApart (front ++ m ∷ back)
      apart = order_join IsApart front (m ∷ back) (order_left IsApart front (mid ++ back) h.spaced.apart) (behind, rest) (λ x y here there. elim there [
        | inl is ↦ subst (IsApart x) is (before x here)
        | inr later ↦ order_across IsApart front (mid ++ back) h.spaced.apart x y here (has_right mid back y later)
      ])

      by : (P : SeenRun → Type 0) → ((r : SeenRun) → Has (front ++ (mid ++ back)) r → P r) → P m → (r : SeenRun) → Has (front ++ m ∷ back) r → P r
      by P old own r there = elim (has_side front (m ∷ back) r there) [
        | inl here ↦ old r (has_left front (mid ++ back) r here)
        | inr other ↦ elim other [ inl is ↦ subst P is own | inr later ↦ old r (in_old r later) ]
      ]

      each : (r : SeenRun) → Has (front ++ m ∷ back) r → r.first ≤ r.last
      each = by (λ r. r.first ≤ r.last) h.spaced.some some

      above : (r : SeenRun) → Has (front ++ m ∷ back) r → suc c < r.first
      above = by (λ r. suc c < r.first) h.above high

  -- and holds what they held, and one index more
  replaced_more : (i : ℕ) → ((j : ℕ) → in_run m j ≡ (in_runs mid j || (j == i))) → HaveMore c i (front ++ (mid ++ back)) (front ++ m ∷ back)
  replaced_more i own = record {
    runs = replaced;
    holds = λ j.
        in_parts front (m ∷ back) j ∙ ap (λ (b : Bool). in_runs front j || (b || in_runs back j)) (own j)
        ∙ shuffled (in_runs front j) (in_runs mid j) (j == i) (in_runs back j)
        ∙ ap (λ (b : Bool). (in_runs front j || b) || (j == i)) (sym (in_parts mid back j))
        ∙ ap (λ (b : Bool). b || (j == i)) (sym (in_parts front (mid ++ back) j));
  }
    where
      shuffled : (a b d e : Bool) → (a || ((b || d) || e)) ≡ ((a || (b || e)) || d)
      shuffled true b d e = refl
      shuffled false true d e = refl
      shuffled false false true true = refl
      shuffled false false true false = refl
      shuffled false false false true = refl
      shuffled false false false false = refl

-- the index is in no run and touches none: it becomes a run of its own
dropped_more : (rs : List SeenRun) (u k : ℕ) (r : SeenRun) → u ≤ k → Has (drop k rs) r → Has (drop u rs) r
dropped_more rs zero k r le there = subst (λ (xs : List SeenRun). Has xs r) (split rs k) (has_right (take k rs) (drop k rs) r there)
dropped_more [] (suc u) (suc k) r le there = there
dropped_more (x ∷ xs) (suc u) (suc k) r le there = dropped_more xs u k r (omega (arith, le)) there
dropped_more rs (suc u) zero r le there = absurd (omega (arith, le))

pub gains_alone : (rs : List SeenRun) (k u c i : ℕ) → u ≤ k → IsPlace (lies_below i) rs k → IsPlace (begins_by i) rs u → AreRuns c rs → suc c < i →
    HaveMore c i rs (take k rs ++ record { first = i; last = i } ∷ drop k rs)
gains_alone rs k u c i le below by h high = subst (λ (old : List SeenRun). HaveMore c i old (take k rs ++ record { first = i; last = i } ∷ drop k rs)) (split rs k)
    (replaced_more c (take k rs) [] (drop k rs) (record { first = i; last = i }) (subst (AreRuns c) (sym (split rs k)) h) high (omega arith)
    (λ r there. let low = below.front r there in grind (arith, low, nat_tests)) (λ r there. let late = by.back r (dropped_more rs u k r le there) in grind (arith, late, nat_tests)) i own)
  where
    own : (j : ℕ) → (nat_le i j && nat_le j i) ≡ (false || (j == i))
    own j = grind (arith, nat_tests, common_steps)

-- it touches one run, which grows by it
pub gains_one : (rs : List SeenRun) (k c i : ℕ) (x : SeenRun) → k < length rs → x ≡ get_or rs k x → IsPlace (lies_below i) rs k → IsPlace (begins_by i) rs (suc k) → AreRuns c rs → suc c < i →
    in_runs rs i ≡ false → HaveMore c i rs (take k rs ++ record { first = min x.first i; last = max x.last i } ∷ drop (suc k) rs)
gains_one rs k c i x l at below by h high new = subst (λ (old : List SeenRun). HaveMore c i old (take k rs ++ record { first = min x.first i; last = max x.last i } ∷ drop (suc k) rs)) whole
    (replaced_more c (take k rs) (x ∷ []) (drop (suc k) rs) (record { first = min x.first i; last = max x.last i }) old
    (let above = h.above x there in omega (arith, above, high)) (let some = h.spaced.some x there in omega (arith, some))
    (λ r here. let low = below.front r here in let gap = across r here in grind (arith, low, gap, nat_tests))
    (λ r here. let late = by.back r here in let gap = after r here in grind (arith, late, gap, nat_tests)) i own)
  where
    whole : take k rs ++ ((x ∷ []) ++ drop (suc k) rs) ≡ rs
    whole = split_at rs k x l at

    old : AreRuns c (take k rs ++ ((x ∷ []) ++ drop (suc k) rs))
    old = subst (AreRuns c) (sym whole) h

    there : Has rs x
    there = subst (λ (xs : List SeenRun). Has xs x) whole (has_right (take k rs) (x ∷ drop (suc k) rs) x (inl refl))

    across : (r : SeenRun) → Has (take k rs) r → suc r.last < x.first
    across r here = order_across IsApart (take k rs) (x ∷ drop (suc k) rs) old.spaced.apart r x here (inl refl)

    after : (r : SeenRun) → Has (drop (suc k) rs) r → suc x.last < r.first
    after r here = (order_right IsApart (take k rs) (x ∷ drop (suc k) rs) old.spaced.apart).0 r here

    -- the run ends at the index before, or begins at the one after
    near : ((suc x.last < i → ⊥) × (suc i < x.first → ⊥)) × (in_run x i ≡ false)
    near = ((not_below, not_past), outside)
      where
        not_below : suc x.last < i → ⊥
        not_below less = let late = below.back x (subst (λ (xs : List SeenRun). Has xs x) (sym (head_is rs k x l at)) (inl refl)) in grind (arith, late, less, nat_tests)

        not_past : suc i < x.first → ⊥
        not_past less = let begins = by.front x (taken rs k x l at) in grind (arith, begins, less, nat_tests)

        outside : in_run x i ≡ false
        outside = sym (held_at rs i k x h.spaced l at by) ∙ new

    own : (j : ℕ) → in_run (record { first = min x.first i; last = max x.last i }) j ≡ ((in_run x j || false) || (j == i))
    own j = let n = near.0.0 in let p = near.0.1 in let o = near.1 in let some = h.spaced.some x there in grown x.first x.last i j some (λ e. n e) (λ e. p e) o
      where
        grown : (a b n m : ℕ) → a ≤ b → (suc b < n → ⊥) → (suc n < a → ⊥) → (nat_le a n && nat_le n b) ≡ false → (nat_le (min a n) m && nat_le m (max b n)) ≡ (((nat_le a m && nat_le m b) || false) || (m == n))
        grown a b n m some low high out = elim (cases_lt b n) [
          | inl past ↦ (let one : n ≡ suc b = elim (cases_lt (suc b) n) [ inl far ↦ absurd (low far) | inr le ↦ omega (arith, past, le) ] in grind (arith, one, some, nat_tests, common_steps))
          | inr upto ↦ (let before : n < a = grind (arith, out, upto, nat_tests, common_steps) in let one : a ≡ suc n = elim (cases_lt (suc n) a) [ inl far ↦ absurd (high far) | inr le ↦ omega (arith, before, le) ] in grind (arith, one, some, nat_tests, common_steps))
        ]

-- it closes the gap between two runs, which become one
pub gains_two : (rs : List SeenRun) (k u c i : ℕ) (x y : SeenRun) → suc k < length rs → suc k < u → x ≡ get_or rs k x → y ≡ get_or rs (suc k) y → IsPlace (lies_below i) rs k → IsPlace (begins_by i) rs u →
    AreRuns c rs → suc c < i → HaveMore c i rs (take k rs ++ record { first = x.first; last = y.last } ∷ drop (suc (suc k)) rs)
gains_two rs k u c i x y l past at next below by h high = subst (λ (old : List SeenRun). HaveMore c i old (take k rs ++ record { first = x.first; last = y.last } ∷ drop (suc (suc k)) rs)) whole
    (replaced_more c (take k rs) (x ∷ y ∷ []) (drop (suc (suc k)) rs) (record { first = x.first; last = y.last }) old
    (h.above x here) (let one = h.spaced.some x here in let two = h.spaced.some y there in omega (arith, one, two, gap))
    (λ r in_front. order_across IsApart (take k rs) (x ∷ y ∷ drop (suc (suc k)) rs) old.spaced.apart r x in_front (inl refl))
    (λ r in_back. (order_right IsApart (take k rs) (x ∷ y ∷ drop (suc (suc k)) rs) old.spaced.apart).1.0 r in_back) i own)
  where
    whole : take k rs ++ ((x ∷ y ∷ []) ++ drop (suc (suc k)) rs) ≡ rs
    whole = ap (λ (ys : List SeenRun). take k rs ++ x ∷ ys) (sym (head_is rs (suc k) y l next)) ∙ split_at rs k x (omega (arith, l)) at

    old : AreRuns c (take k rs ++ ((x ∷ y ∷ []) ++ drop (suc (suc k)) rs))
    old = subst (AreRuns c) (sym whole) h

    here : Has rs x
    here = subst (λ (xs : List SeenRun). Has xs x) whole (has_right (take k rs) (x ∷ y ∷ drop (suc (suc k)) rs) x (inl refl))

    there : Has rs y
    there = subst (λ (xs : List SeenRun). Has xs y) whole (has_right (take k rs) (x ∷ y ∷ drop (suc (suc k)) rs) y (inr (inl refl)))

    gap : suc x.last < y.first
    gap = (order_right IsApart (take k rs) (x ∷ y ∷ drop (suc (suc k)) rs) old.spaced.apart).0 y (inl refl)

    ends : (x.last < i) × (suc x.last ≡ i) × (y.first ≡ suc i)
    ends =
        let late = below.back x (subst (λ (xs : List SeenRun). Has xs x) (sym (head_is rs k x (omega (arith, l)) at)) (inl refl)) in
        let begins = by.front y (taken_before rs (suc k) u y l past next) in
        let g = gap in
        (grind (arith, late, begins, g, nat_tests), grind (arith, late, begins, g, nat_tests), grind (arith, late, begins, g, nat_tests))

    own : (j : ℕ) → (nat_le x.first j && nat_le j y.last) ≡ ((in_run x j || (in_run y j || false)) || (j == i))
    own j = let e = ends.1 in let b = ends.2 in let one = h.spaced.some x here in let two = h.spaced.some y there in grind (arith, e, b, one, two, nat_tests, common_steps)
