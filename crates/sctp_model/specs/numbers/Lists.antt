-- What the definitions of this crate share on lists and on functions.
use Rattle.std.specs.Prelude.{◌≡◌, ℕ, zero, suc, ◌⊎◌, if◌then◌else◌, ◌==◌, List, [], ◌∷◌, ◌++◌, slice_get, Option, None}

-- some element of a list is this one
abbrev pub Has : {A : Type 0} → List A → A → Type 0
Has [] x = ⊥
Has (y ∷ ys) x = (y ≡ x) ⊎ Has ys x

-- each element of the first list is one of the second
abbrev pub IsWithin : {A : Type 0} → List A → List A → Type 0
IsWithin {A} xs ys = (x : A) → Has xs x → Has ys x

-- the i-th element of a list, counted from 1; nothing is at 0
abbrev pub item_at : {A : Type 0} → List A → ℕ → Option A
item_at xs zero = None
item_at xs (suc i) = slice_get xs i

-- lists put one after the other
abbrev pub joined : {A : Type 0} → List (List A) → List A
joined [] = []
joined (x ∷ xs) = x ++ joined xs

-- the same function, but for one argument
abbrev pub at : {A : Type 0} → (ℕ → A) → ℕ → A → ℕ → A
at f s v t = if t == s then v else f t

-- each element of a list is in this relation to all after it
abbrev pub AreInOrder : {A : Type 0} → (A → A → Type 0) → List A → Type 0
AreInOrder R [] = Unit {0}
AreInOrder R (x ∷ xs) = ((y : _) → Has xs y → R x y) × AreInOrder R xs
