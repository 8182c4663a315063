-- Which keys have values, both numbers: the values by key, and the pairs that are kept of them in two orders.
use Rattle.std.specs.Prelude.{◌≡◌, ℕ, suc, ◌<◌, ◌≤◌, Bool, true, List, [], ◌∷◌, ◌++◌, map, slice_index_or, Option, None, Some}
use Rattle.sctp_sequence.specs.Pairs.{AreSame}
use Rattle.sctp_sequence.specs.declared.pairs.Pair.{Pair}
use Rattle.sctp_sequence.specs.declared.two_way_map.TwoWayMap.{TwoWayMap}

-- ---- values by key

-- the one of a key, if it has one
abbrev pub value_of : (key : ℕ) → List (Option ℕ) → Option ℕ
value_of j os = slice_index_or os j None

-- the first key from one on that has a value, and the value
pub record IsFirstKey (from : ℕ) (os : List (Option ℕ)) (p : Pair) : Type 0 where
  pub above : from ≤ p.first
  pub there : value_of p.first os ≡ Some p.second
  pub before : (j : ℕ) → from ≤ j → j < p.first → value_of j os ≡ None

-- that key, or there is none
abbrev pub FirstKeyAnswer : (from : ℕ) → List (Option ℕ) → Option Pair → Type 0
FirstKeyAnswer from os None = (j : ℕ) → from ≤ j → value_of j os ≡ None
FirstKeyAnswer from os (Some p) = IsFirstKey from os p

-- a key that has this value, or there is none
abbrev pub KeyWithAnswer : (value : ℕ) → List (Option ℕ) → Option ℕ → Type 0
KeyWithAnswer t os None = (j : ℕ) → value_of j os ≡ Some t → ⊥
KeyWithAnswer t os (Some j) = value_of j os ≡ Some t

-- ---- the pairs

-- a key and its value
abbrev pub pair_on : (key : ℕ) → Option ℕ → List Pair
pair_on j None = []
pair_on j (Some t) = record { first = j; second = t } ∷ []

-- those of all keys, from one on
abbrev pub pairs_from : (key : ℕ) → List (Option ℕ) → List Pair
pairs_from j [] = []
pairs_from j (o ∷ os) = pair_on j o ++ pairs_from (suc j) os

-- the other number first
abbrev pub turned : Pair → Pair
turned p = record { first = p.second; second = p.first }

-- whether all values are there
abbrev pub is_complete : TwoWayMap → Bool
is_complete m = m.is_complete

-- The map is that of these values by key, if all are there.
pub record IsMapOf (os : List (Option ℕ)) (m : TwoWayMap) : Type 0 where
  pub by_key : m.is_complete ≡ true → AreSame m.by_key.items (pairs_from 0 os)
  pub by_value : m.is_complete ≡ true → AreSame m.by_value.items (map turned (pairs_from 0 os))
