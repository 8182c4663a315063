-- Numbers that a chunk or a message may lack: what is below a bound, and what is less.
use Rattle.std.proofs.Common.{◌≡◌, ℕ, ◌<◌, ◌≤◌, ◌⊎◌, true, Option, None, Some, inl, inr, refl, arith}
use Rattle.std.proofs.lemmas.Bool.{cases_lt}
use Rattle.std.proofs.lemmas.Bool.Decides.{nat_tests}
use Rattle.sctp_model.specs.messages.Pieces.{is_number_below, IsNumberBelow, same_number}
use Rattle.sctp_model.specs.world.Safe.{IsNumberLess}

pub below_more : (a b : ℕ) (o : Option ℕ) → a ≤ b → IsNumberBelow a o → IsNumberBelow b o
below_more a b None le h = absurd h
below_more a b (Some n) le h = omega arith

pub not_below_none : (o : Option ℕ) → IsNumberBelow 0 o → ⊥
not_below_none None h = h
not_below_none (Some n) h = omega arith

pub below_is : (a n : ℕ) (o : Option ℕ) → o ≡ Some n → IsNumberBelow a o → n < a
below_is a n None e h = absurd h
below_is a n (Some m) e h = let d : m ≡ n = cc in omega arith

pub is_below_by : (a n : ℕ) (o : Option ℕ) → o ≡ Some n → n < a → IsNumberBelow a o
is_below_by a n None e l = absurd (cc)
is_below_by a n (Some m) e l = let d : m ≡ n = cc in omega arith

pub below-true : (a : ℕ) (o : Option ℕ) → is_number_below a o ≡ true → IsNumberBelow a o
below-true a None e = absurd (cc)
below-true a (Some n) e = go (cases_lt n a)
  where
    go : (n < a) ⊎ (a ≤ n) → n < a
    go (inl l) = l
    go (inr l) = grind (arith, nat_tests)

pub true-below : (a : ℕ) (o : Option ℕ) → IsNumberBelow a o → is_number_below a o ≡ true
true-below a None h = absurd h
true-below a (Some n) h = grind (arith, nat_tests)

pub less_by : (n : ℕ) (o p : Option ℕ) → p ≡ Some n → IsNumberBelow n o → IsNumberLess o p
less_by n None p e h = absurd h
less_by n (Some m) None e h = absurd (cc)
less_by n (Some m) (Some k) e h = let d : k ≡ n = cc in omega arith

pub same-true : (o p : Option ℕ) → same_number o p ≡ true → o ≡ p
same-true None None e = refl
same-true None (Some n) e = absurd (cc)
same-true (Some m) None e = absurd (cc)
same-true (Some m) (Some n) e = let d : m ≡ n = grind (arith, nat_tests) in cc

pub true-same : (o p : Option ℕ) → o ≡ p → same_number o p ≡ true
true-same None None e = refl
true-same None (Some n) e = absurd (cc)
true-same (Some m) None e = absurd (cc)
true-same (Some m) (Some n) e = let d : m ≡ n = cc in grind (arith, nat_tests)
