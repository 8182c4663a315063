-- What holds of each of the blocks.
use Rattle.std.proofs.Common.{ℕ, zero, suc, ◌<◌, List, [], ◌∷◌, length, get_or, set, arith}
use Rattle.std.specs.List.{AllByRecursion}

module _ {X : Type 0} (P : X → Type 0) where
  pub all-at : (xs : List X) (k : ℕ) (d : X) → k < length xs → AllByRecursion P xs → P (get_or xs k d)
  all-at [] k d less h = absurd (omega arith)
  all-at (x ∷ xs) zero d less h = h.0
  all-at (x ∷ xs) (suc k) d less h = all-at xs k d (omega arith) h.1

  pub all-set : (xs : List X) (k : ℕ) (x : X) → P x → AllByRecursion P xs → AllByRecursion P (set xs k x)
  all-set [] k x p h = tt
  all-set (y ∷ xs) zero x p h = (p, h.1)
  all-set (y ∷ xs) (suc k) x p h = (h.0, all-set xs k x p h.1)
