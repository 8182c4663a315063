-- Numbers that stand as a tree.
use Rattle.std.specs.Prelude.{ℕ, ◌+◌, ◌<◌, ◌≤◌, Bool, true, false, List, [], ◌∷◌, length, slice_index_or}

-- the number at a place
abbrev pub low_at : List ℕ → ℕ → ℕ
low_at places k = slice_index_or places k 0

-- the number at a place is at most those at twice the place and right behind that
abbrev pub IsTree : List ℕ → Type 0
IsTree places = (r b : ℕ) → 0 < r → r + r + 1 < length places → b < 2 → low_at places r ≤ low_at places (r + r + b)

-- the place that is reached from a place by steps to twice the place and right behind that
abbrev pub place_under : ℕ → List Bool → ℕ
place_under r [] = r
place_under r (false ∷ path) = place_under (r + r) path
place_under r (true ∷ path) = place_under (r + r + 1) path
