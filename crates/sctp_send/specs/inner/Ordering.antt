-- What stands in rising order, by a number that each element has.
use Rattle.std.specs.Prelude.{ℕ, suc, ◌≤◌, nat_lt, if◌then◌else◌, List, [], ◌∷◌}

-- The elements stand in order, the first one no lower than here.
abbrev pub AreInOrder : {A : Type 0} → (number : A → ℕ) → (here : ℕ) → List A → Type 0
AreInOrder f n [] = Unit {0}
AreInOrder f n (x ∷ xs) = (n ≤ f x) × AreInOrder f (f x) xs

-- how many of them, from the first on, have lower numbers
abbrev pub before : {A : Type 0} → (number : A → ℕ) → ℕ → List A → ℕ
before f n [] = 0
before f n (x ∷ xs) = if nat_lt (f x) n then suc (before f n xs) else 0
