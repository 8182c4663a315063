-- How many fates are of abandoned messages, as one changes and as one comes.
use Rattle.std.proofs.Common.{◌≡◌, ℕ, zero, suc, ◌<◌, ◌≤◌, List, [], ◌∷◌, ◌++◌, length, get_or, set, false, refl, arith}
use Rattle.std.proofs.lemmas.Bool.Decides.{nat_tests}
use Rattle.sctp_send.specs.inner.Walks.{is_abandoned_fate, how_many_abandoned}
use Rattle.sctp_send.specs.declared.kept.message.Fate.{Fate}
use Rattle.sctp_send.specs.declared.kept.message.Fate.TheVariants.{Abandoned as WasAbandoned}

-- a fate in place of another, and neither of an abandoned message
pub set_open : (xs : List Fate) (at : ℕ) (x d : Fate) → at < length xs → is_abandoned_fate (get_or xs at d) ≡ false → is_abandoned_fate x ≡ false → how_many_abandoned (set xs at x) ≡ how_many_abandoned xs
set_open [] at x d lt was is = refl
set_open (y ∷ ys) zero x d lt was is = rw (was, is) refl
set_open (y ∷ ys) (suc at) x d lt was is = rw (set_open ys at x d (omega (arith, lt)) was is) refl

-- that of an abandoned message in place of one of another
pub set_gone : (xs : List Fate) (at : ℕ) (d : Fate) → at < length xs → is_abandoned_fate (get_or xs at d) ≡ false → how_many_abandoned (set xs at WasAbandoned) ≡ suc (how_many_abandoned xs)
set_gone [] at d lt was = absurd (omega (arith, lt))
set_gone (y ∷ ys) zero d lt was = rw was refl
set_gone (y ∷ ys) (suc at) d lt was = rw (set_gone ys at d (omega (arith, lt)) was) (grind (arith, nat_tests))

-- one more, of another message
pub push_open : (xs : List Fate) (x : Fate) → is_abandoned_fate x ≡ false → how_many_abandoned (xs ++ x ∷ []) ≡ how_many_abandoned xs
push_open [] x is = rw is refl
push_open (y ∷ ys) x is = rw (push_open ys x is) refl

-- no more than there are
pub few_abandoned : (xs : List Fate) → how_many_abandoned xs ≤ length xs
few_abandoned [] = omega arith
few_abandoned (x ∷ xs) = grind (arith, nat_tests, few_abandoned xs)
