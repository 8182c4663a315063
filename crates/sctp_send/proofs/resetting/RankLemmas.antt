-- Where a number comes in a list in rising order: a search by halves finds it.
use Rattle.std.proofs.Common.{◌≡◌, ℕ, zero, suc, ◌<◌, ◌≤◌, List, [], ◌∷◌, length, get_or, true, false, refl, ap, arith}
use Rattle.std.specs.Prelude.{nat_lt}
use Rattle.std.specs.List.Sorted.{IsPartitionedBy, IsPartitionPoint}
use Rattle.std.proofs.lemmas.Bool.Decides.{nat_tests}
use Rattle.sctp_send.specs.inner.Ordering.{before, AreInOrder}

no_lower : {A : Type 0} (f : A → ℕ) (here at : ℕ) (xs : List A) (d : A) → AreInOrder f here xs → at < length xs → here ≤ f (get_or xs at d)
no_lower f here at [] d h lt = absurd (omega arith)
no_lower f here zero (x ∷ xs) d h lt = h.0
no_lower f here (suc at) (x ∷ xs) d h lt = let rest = no_lower f (f x) at xs d h.1 (omega arith) in omega (arith, rest, h.0)

-- one behind another is no lower
in_order : {A : Type 0} (f : A → ℕ) (here i j : ℕ) (xs : List A) (d : A) → AreInOrder f here xs → i ≤ j → j < length xs → f (get_or xs i d) ≤ f (get_or xs j d)
in_order f here i j [] d h le lt = absurd (omega arith)
in_order f here zero zero (x ∷ xs) d h le lt = omega arith
in_order f here zero (suc j) (x ∷ xs) d h le lt = no_lower f (f x) j xs d h.1 (omega arith)
in_order f here (suc i) zero (x ∷ xs) d h le lt = absurd (omega arith)
in_order f here (suc i) (suc j) (x ∷ xs) d h le lt = in_order f (f x) i j xs d h.1 (omega arith) (omega arith)

-- a search by halves can find that rank
pub can_search : {A : Type 0} (f : A → ℕ) (n here : ℕ) (xs : List A) → AreInOrder f here xs → IsPartitionedBy (λ x. nat_lt (f x) n) xs
can_search f n here xs h = λ i j d le lt low. let more = in_order f here i j xs d h le lt in grind (arith, nat_tests)

-- and finds it
pub searched : {A : Type 0} (f : A → ℕ) (n i : ℕ) (xs : List A) → i ≤ length xs → IsPartitionPoint (λ x. nat_lt (f x) n ≡ true) (λ x. nat_lt (f x) n ≡ false) xs i → i ≡ before f n xs
searched f n zero [] le point = refl
searched f n (suc i) [] le point = absurd (omega arith)
searched f n zero (x ∷ xs) le point = let off : nat_lt (f x) n ≡ false = point.1 0 x (omega arith) (omega arith) in rw off refl
searched f n (suc i) (x ∷ xs) le point =
    let on : nat_lt (f x) n ≡ true = point.0 0 x (omega arith) (omega arith) in
    let rest = searched f n i xs (omega arith) ((λ k d low less. point.0 (suc k) d (omega arith) (omega arith)), (λ k d low less. point.1 (suc k) d (omega arith) (omega arith))) in
    rw on (ap suc rest)
