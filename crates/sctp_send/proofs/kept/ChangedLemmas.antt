-- A list in which one element is changed: as one that is set, and its length.
use Rattle.std.proofs.Common.{◌≡◌, ℕ, zero, suc, ◌<◌, List, [], ◌∷◌, length, get_or, set, refl, ap, subst, arith}
use Rattle.sctp_send.specs.PartsKept.{changed_at}

-- what is changed is set to what became of it
pub changed_set : {A : Type 0} (f : A → A) (n : ℕ) (xs : List A) (x : A) → n < length xs → x ≡ get_or xs n x → changed_at f n xs ≡ set xs n (f x)
changed_set f n [] x lt read = absurd (omega arith)
changed_set f zero (y ∷ xs) x lt read = rw read refl
changed_set {A = A} f (suc n) (y ∷ xs) x lt read = ap (λ (ys : List A). y ∷ ys) (changed_set f n xs x (omega arith) read)

-- nothing comes or goes
pub count_changed : {A : Type 0} (f : A → A) (n : ℕ) (xs : List A) → length (changed_at f n xs) ≡ length xs
count_changed f n [] = refl
count_changed f zero (x ∷ xs) = refl
count_changed f (suc n) (x ∷ xs) = ap suc (count_changed f n xs)

-- two changes that agree on one element
pub changed_at_like : {A : Type 0} (f g : A → A) (n : ℕ) (xs : List A) (x : A) → x ≡ get_or xs n x → f x ≡ g x → changed_at f n xs ≡ changed_at g n xs
changed_at_like f g n [] x read same = refl
changed_at_like f g zero (y ∷ ys) x read same = ap (λ z. z ∷ ys) (subst (λ z. f z ≡ g z) read same)
changed_at_like f g (suc n) (y ∷ ys) x read same = ap (λ zs. y ∷ zs) (changed_at_like f g n ys x read same)
