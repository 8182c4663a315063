-- Runs in order: where an index belongs among them, and what they hold.
use Rattle.std.proofs.Common.{◌≡◌, ◌==◌, ℕ, zero, suc, ◌<◌, ◌≤◌, Bool, true, false, List, [], ◌∷◌, ◌++◌, length, get_or, set, take, drop, inl, inr, refl, sym, ◌∙◌, ap, subst, arith}
use Rattle.std.specs.Prelude.{◌||◌}
use Rattle.std.specs.List.{remove}
use Rattle.std.specs.List.Sorted.{IsPartitionPoint, IsPartitionedBy}
use Rattle.std.proofs.lemmas.List.Folds.{list_any-append}
use Rattle.std.proofs.lemmas.Bool.Decides.{nat_tests}
use Rattle.sctp_model.specs.numbers.Lists.{Has, AreInOrder}
use Rattle.sctp_recv.specs.declared.runs.SeenRun.{SeenRun}
use Rattle.sctp_recv.specs.Runs.{in_run, in_runs, IsApart, AreSpaced, AreRuns, begins_by, IsPlace}
use Rattle.sctp_recv.proofs.ListOrder.{order_across}

-- ---- places

pub split : {A : Type 0} (xs : List A) (k : ℕ) → take k xs ++ drop k xs ≡ xs
split xs zero = refl
split [] (suc k) = refl
split (x ∷ xs) (suc k) = ap (λ zs. x ∷ zs) (split xs k)

pub head_is : (xs : List SeenRun) (k : ℕ) (r : SeenRun) → k < length xs → r ≡ get_or xs k r → drop k xs ≡ r ∷ drop (suc k) xs
head_is [] k r l e = absurd (omega arith)
head_is (x ∷ xs) zero r l e = ap (λ (y : SeenRun). y ∷ xs) (sym e)
head_is (x ∷ xs) (suc k) r l e = head_is xs k r (omega arith) e

-- the runs before a place, the one there, and those behind it
pub split_at : (xs : List SeenRun) (k : ℕ) (r : SeenRun) → k < length xs → r ≡ get_or xs k r → take k xs ++ r ∷ drop (suc k) xs ≡ xs
split_at xs k r l at = ap (λ (ys : List SeenRun). take k xs ++ ys) (sym (head_is xs k r l at)) ∙ split xs k

pub has_at : (xs : List SeenRun) (k : ℕ) (d : SeenRun) → k < length xs → Has xs (get_or xs k d)
has_at [] k d l = absurd (omega arith)
has_at (x ∷ xs) zero d l = inl refl
has_at (x ∷ xs) (suc k) d l = inr (has_at xs k d (omega arith))

pub spaced_tail : (x : SeenRun) (xs : List SeenRun) → AreSpaced (x ∷ xs) → AreSpaced xs
spaced_tail x xs h = record { some = λ r there. h.some r (inr there); apart = h.apart.1 }

-- a test that passes on to earlier runs has a place
parted : (test : SeenRun → Bool) → ((low high : SeenRun) → IsApart low high → low.first ≤ low.last → high.first ≤ high.last → test high ≡ true → test low ≡ true) →
    (rs : List SeenRun) → AreSpaced rs → IsPartitionedBy test rs
parted test down [] h j k d le l e = absurd (omega arith)
parted test down (r ∷ rs) h zero zero d le l e = e
parted test down (r ∷ rs) h zero (suc k) d le l e =
    let there = has_at rs k d (omega arith) in
    down r (get_or rs k d) (h.apart.0 (get_or rs k d) there) (h.some r (inl refl)) (h.some (get_or rs k d) (inr there)) e
parted test down (r ∷ rs) h (suc j) zero d le l e = absurd (omega arith)
parted test down (r ∷ rs) h (suc j) (suc k) d le l e = parted test down rs (spaced_tail r rs h) j k d (omega arith) (omega arith) e

pub by_parted : (i : ℕ) (rs : List SeenRun) → AreSpaced rs → IsPartitionedBy (begins_by i) rs
by_parted i = parted (begins_by i) (λ low high apart some also e. grind (arith, apart, some, e, nat_tests))

pub placed : (test : SeenRun → Bool) (rs : List SeenRun) (k : ℕ) → k ≤ length rs → IsPartitionPoint (λ (r : SeenRun). test r ≡ true) (λ (r : SeenRun). test r ≡ false) rs k → IsPlace test rs k
placed test [] zero le point = record { front = λ r there. absurd there; back = λ r there. absurd there }
placed test [] (suc k) le point = absurd (omega arith)
placed test (x ∷ xs) zero le point = record {
  front = λ r there. absurd there;
  back = λ r there. elim there [
    | inl is ↦ subst (λ (y : SeenRun). test y ≡ false) is (point.1 0 x (omega arith) (omega arith))
    | inr later ↦ (placed test xs zero (omega arith) (λ j d low high. absurd (omega arith), λ j d low high. point.1 (suc j) d (omega arith) (omega arith))).back r later
  ];
}
placed test (x ∷ xs) (suc k) le point =
    let rest = placed test xs k (omega arith) (λ j d low high. point.0 (suc j) d (omega arith) (omega arith), λ j d low high. point.1 (suc j) d (omega arith) (omega arith)) in
    record {
      front = λ r there. elim there [
        | inl is ↦ subst (λ (y : SeenRun). test y ≡ true) is (point.0 0 x (omega arith) (omega arith))
        | inr later ↦ rest.front r later
      ];
      back = rest.back;
    }

-- a run that takes another's place, and the next one taken out
removed_at : (xs : List SeenRun) (k : ℕ) (m : SeenRun) → suc k < length xs → remove (set xs k m) (suc k) ≡ take k xs ++ m ∷ drop (suc (suc k)) xs
removed_at [] k m less = absurd (omega (arith, less))
removed_at (x ∷ xs) zero m less = refl
removed_at (x ∷ xs) (suc k) m less = ap (λ (ys : List SeenRun). x ∷ ys) (removed_at xs k m (omega (arith, less)))

pub removed_next : (xs : List SeenRun) (k next : ℕ) (m : SeenRun) → next ≡ suc k → suc k < length xs → remove (set xs k m) next ≡ take k xs ++ m ∷ drop (suc (suc k)) xs
removed_next xs k next m is less = ap (remove (set xs k m)) is ∙ removed_at xs k m less

-- one more run left out
pub dropped_one : (xs : List SeenRun) (k : ℕ) → drop 1 (drop k xs) ≡ drop (suc k) xs
dropped_one xs zero = refl
dropped_one [] (suc k) = refl
dropped_one (x ∷ xs) (suc k) = dropped_one xs k

-- ---- what runs hold

pub in_none : (rs : List SeenRun) (i : ℕ) → ((r : SeenRun) → Has rs r → in_run r i ≡ false) → in_runs rs i ≡ false
in_none [] i none = refl
in_none (r ∷ rs) i none = let here = none r (inl refl) in rw here (in_none rs i (λ q there. none q (inr there)))

pub in_parts : (front back : List SeenRun) (j : ℕ) → in_runs (front ++ back) j ≡ (in_runs front j || in_runs back j)
in_parts front back j = list_any-append (λ (r : SeenRun). in_run r j) front back

-- the index right after c is in none
pub none_after : (c : ℕ) (rs : List SeenRun) → AreRuns c rs → in_runs rs (suc c) ≡ false
none_after c rs h = in_none rs (suc c) (λ r there. let above = h.above r there in grind (arith, above, nat_tests))

-- a run is among those up to its place
pub taken_before : (xs : List SeenRun) (k u : ℕ) (r : SeenRun) → k < length xs → k < u → r ≡ get_or xs k r → Has (take u xs) r
taken_before [] k u r less low is = absurd (omega (arith, less))
taken_before (x ∷ xs) k zero r less low is = absurd (omega (arith, low))
taken_before (x ∷ xs) zero (suc u) r less low is = inl (sym is)
taken_before (x ∷ xs) (suc k) (suc u) r less low is = inr (taken_before xs k u r (omega (arith, less)) (omega (arith, low)) is)

pub taken : (xs : List SeenRun) (k : ℕ) (r : SeenRun) → k < length xs → r ≡ get_or xs k r → Has (take (suc k) xs) r
taken xs k r less is = taken_before xs k (suc k) r less (omega arith) is

-- an index is in the last run that begins by it, or in none
pub held_at : (rs : List SeenRun) (i k : ℕ) (r : SeenRun) → AreSpaced rs → k < length rs → r ≡ get_or rs k r → IsPlace (begins_by i) rs (suc k) → in_runs rs i ≡ in_run r i
held_at rs i k r h l at place = ap (λ (xs : List SeenRun). in_runs xs i) (sym whole) ∙ in_parts (take k rs) (r ∷ drop (suc k) rs) i ∙ parts
  where
    whole : take k rs ++ r ∷ drop (suc k) rs ≡ rs
    whole = split_at rs k r l at

    order : AreInOrder IsApart (take k rs ++ r ∷ drop (suc k) rs)
    order = subst (AreInOrder IsApart) (sym whole) h.apart

    begins : begins_by i r ≡ true
    begins = place.front r (taken rs k r l at)

    front : in_runs (take k rs) i ≡ false
    front = in_none (take k rs) i (λ q there. let low = order_across IsApart (take k rs) (r ∷ drop (suc k) rs) order q r there (inl refl) in let b = begins in grind (arith, low, b, nat_tests))

    back : in_runs (drop (suc k) rs) i ≡ false
    back = in_none (drop (suc k) rs) i (λ q there. let late = place.back q there in grind (arith, late, nat_tests))

    parts : (in_runs (take k rs) i || (in_run r i || in_runs (drop (suc k) rs) i)) ≡ in_run r i
    parts = let f = front in let b = back in rw (f, b) (right (in_run r i))
      where
        right : (b : Bool) → (b || false) ≡ b
        right true = refl
        right false = refl

pub held_nowhere : (rs : List SeenRun) (i : ℕ) → IsPlace (begins_by i) rs 0 → in_runs rs i ≡ false
held_nowhere rs i place = in_none rs i (λ q there. let late = place.back q there in grind (arith, late, nat_tests))

-- no list without length has an item
pub nothing_there : (rs : List SeenRun) → (length rs == 0) ≡ true → rs ≡ []
nothing_there [] h = refl
nothing_there (r ∷ rs) h = absurd (grind (arith, h, nat_tests))
