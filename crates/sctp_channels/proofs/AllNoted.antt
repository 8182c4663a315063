-- Once all resets are noted, none is left to be told.
use Rattle.std.proofs.Common.{◌≡◌, ◌⊎◌, ℕ, zero, suc, ◌+◌, ◌<◌, ◌≤◌, ◌==◌, Bool, true, false, find, Option, Some, None, is_some, inl, inr, refl, subst, ap, arith, if◌then◌else◌}
use Rattle.std.proofs.lemmas.Bool.{cases_lt}
use Rattle.std.proofs.lemmas.Bool.Decides.{nat_tests}
use Rattle.sctp_model.specs.sender.Words.{count_up}
use Rattle.sctp_model.specs.end.EndView.{EndView}
use Rattle.sctp_model.specs.end.UserCalls.{reset_there, told_leaves}
use Rattle.sctp_channels.specs.Streams.{Table}
use Rattle.sctp_channels.specs.Events.{reset_noted, resets_noted}
use Rattle.sctp_channels.specs.Driven.{ResetsAreAllNoted}

-- all before the first that passes fail
fails_before : (test : ℕ → Bool) (j m s i : ℕ) → find test (count_up j m) ≡ Some s → j ≤ i → i < s → test i ≡ false
fails_before test j zero s i is low high = absurd (cc)
fails_before test j (suc m) s i is low high = go (test j) refl is (λ later up. fails_before test (suc j) m s i later up high)
  where
    go : (b : Bool) → test j ≡ b → (if b then Some j else find test (count_up (suc j) m)) ≡ Some s → (find test (count_up (suc j) m) ≡ Some s → suc j ≤ i → test i ≡ false) → test i ≡ false
    go true on here further = absurd (let e : j ≡ s = cc here in omega (arith, e, low, high))
    go false off here further = by (cases_lt j i)
      where
        by : (j < i) ⊎ (i ≤ j) → test i ≡ false
        by (inl lt) = further here (omega (arith, lt))
        by (inr le) = let e : j ≡ i = omega (arith, le, low) in subst (λ (k : ℕ). test k ≡ false) e off

passes_there : (test : ℕ → Bool) (j m s : ℕ) → find test (count_up j m) ≡ Some s → test s ≡ true
passes_there test j zero s is = absurd (cc)
passes_there test j (suc m) s is = go (test j) refl is (λ later. passes_there test (suc j) m s later)
  where
    go : (b : Bool) → test j ≡ b → (if b then Some j else find test (count_up (suc j) m)) ≡ Some s → (find test (count_up (suc j) m) ≡ Some s → test s ≡ true) → test s ≡ true
    go true on here further = let e : j ≡ s = cc here in subst (λ (k : ℕ). test k ≡ true) e on
    go false off here further = further here

-- if none passes, each fails
fails_all : (test : ℕ → Bool) (j m i : ℕ) → find test (count_up j m) ≡ None → j ≤ i → i < j + m → test i ≡ false
fails_all test j zero i is low high = absurd (omega (arith, low, high))
fails_all test j (suc m) i is low high = go (test j) refl is (λ later up. fails_all test (suc j) m i later up (omega (arith, high)))
  where
    go : (b : Bool) → test j ≡ b → (if b then Some j else find test (count_up (suc j) m)) ≡ None → (find test (count_up (suc j) m) ≡ None → suc j ≤ i → test i ≡ false) → test i ≡ false
    go true on here further = absurd (cc)
    go false off here further = by (cases_lt j i)
      where
        by : (j < i) ⊎ (i ≤ j) → test i ≡ false
        by (inl lt) = further here (omega (arith, lt))
        by (inr le) = let e : j ≡ i = omega (arith, le, low) in subst (λ (k : ℕ). test k ≡ false) e off

none_is : (o : Option ℕ) → is_some o ≡ false → o ≡ None
none_is None is = refl
none_is (Some k) is = absurd (cc)

cleared : (n k : ℕ) (v : EndView) (x : Table) → v.receiver.streams ≡ k + n → ((i : ℕ) → i < k → v.receiver.resets.told i ≡ None) →
    (i : ℕ) → i < k + n → (resets_noted n v x).view.receiver.resets.told i ≡ None
cleared zero k v x all before i lt = before i (omega (arith, lt))
cleared (suc n) k v x all before i lt =
    go (reset_there v) refl
    (λ next. cleared n (suc k) v x (omega (arith, all)) next i (omega (arith, lt)))
    (λ s next. cleared n (suc k) (told_leaves (Some s) v) (reset_noted (Some s) v x).table (omega (arith, all)) next i (omega (arith, lt)))
  where
    by_none : reset_there v ≡ None → (j : ℕ) → j < suc k → v.receiver.resets.told j ≡ None
    by_none is j small = none_is (v.receiver.resets.told j) (fails_all (λ t. is_some (v.receiver.resets.told t)) 0 v.receiver.streams j is (omega arith) (omega (arith, small, all)))

    by_some : (s : ℕ) → reset_there v ≡ Some s → (j : ℕ) → j < suc k → (told_leaves (Some s) v).receiver.resets.told j ≡ None
    by_some s is j small = by_test (j == s) refl
      where
        there : is_some (v.receiver.resets.told s) ≡ true
        there = passes_there (λ t. is_some (v.receiver.resets.told t)) 0 v.receiver.streams s is

        behind : (s < k) ⊎ (k ≤ s) → (s ≡ j → ⊥) → j < s
        behind (inl early) ne = absurd (let none = ap is_some (before s early) in cc (none, there))
        behind (inr late) ne = by (cases_lt j s)
          where
            by : (j < s) ⊎ (s ≤ j) → j < s
            by (inl lt) = lt
            by (inr le) = absurd (ne (omega (arith, le, late, small)))

        by_test : (b : Bool) → (j == s) ≡ b → (if b then None else v.receiver.resets.told j) ≡ None
        by_test true e = refl
        by_test false e =
            none_is (v.receiver.resets.told j)
            (fails_before (λ t. is_some (v.receiver.resets.told t)) 0 v.receiver.streams s j is (omega arith) (behind (cases_lt s k) (λ same. grind (arith, nat_tests, e, same))))

    go : (o : Option ℕ) → reset_there v ≡ o → (((j : ℕ) → j < suc k → v.receiver.resets.told j ≡ None) → (resets_noted n v x).view.receiver.resets.told i ≡ None) →
        ((s : ℕ) → ((j : ℕ) → j < suc k → (told_leaves (Some s) v).receiver.resets.told j ≡ None) →
        (resets_noted n (told_leaves (Some s) v) (reset_noted (Some s) v x).table).view.receiver.resets.told i ≡ None) →
        (resets_noted n (reset_noted o v x).view (reset_noted o v x).table).view.receiver.resets.told i ≡ None
    go None is none some = none (by_none is)
    go (Some s) is none some = some s (by_some s is)

pub resets_are_all_noted : ResetsAreAllNoted
resets_are_all_noted v x s lt = cleared v.receiver.streams 0 v x (omega arith) (λ i none. absurd (omega (arith, none))) s (omega (arith, lt))
