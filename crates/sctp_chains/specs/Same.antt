-- Lists that say the same but for their order.
use Rattle.std.specs.Prelude.{◌≡◌, ℕ, ◌+◌, List, [], ◌∷◌}
use Rattle.sctp_model.specs.numbers.Lists.{IsWithin}

-- the weights of all elements, added
abbrev pub total : {A : Type 0} → (A → ℕ) → List A → ℕ
total w [] = 0
total w (x ∷ xs) = w x + total w xs

-- The same elements, and whatever each of them weighs, they weigh the same together; so each stands in both equally often.
pub record AreSame {A : Type 0} (xs ys : List A) : Type 0 where
  pub there : IsWithin xs ys
  pub back : IsWithin ys xs
  pub weight : (w : A → ℕ) → total w xs ≡ total w ys
