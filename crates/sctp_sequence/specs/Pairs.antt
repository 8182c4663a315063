-- Pairs of numbers: which of them there are, and the first one from a number on.
use Rattle.std.specs.Prelude.{◌≡◌, ℕ, ◌+◌, ◌*◌, ◌^◌, ◌<◌, ◌≤◌, List, length, slice_index_or, Option, None, Some}
use Rattle.std.specs.List.{All, Contains, sum_by}
use Rattle.std.specs.List.Sorted.{IsNonDecreasingBy}
use Rattle.sctp_sequence.specs.declared.pairs.Pair.{Pair}

-- the pairs, and for how many there is memory
pub record PairsKept : Type 0 where
  pub items : List Pair
  pub capacity : ℕ

-- Both lists have the same pairs, in any order: whatever is summed over the one and over the other is the same.
abbrev pub AreSame : List Pair → List Pair → Type 0
AreSame ps qs = (f : Pair → ℕ) → sum_by f ps ≡ sum_by f qs

-- Of the pairs whose first number is no lower than this one, it is the lowest.
pub record IsFirstFrom (from : ℕ) (ps : List Pair) (p : Pair) : Type 0 where
  pub there : Contains ps p
  pub above : from ≤ p.first
  pub first : (q : Pair) → Contains ps q → from ≤ q.first → p.first ≤ q.first
  pub second : (q : Pair) → Contains ps q → q.first ≡ p.first → p.second ≤ q.second

-- that pair, or there is none
abbrev pub FirstFromAnswer : (from : ℕ) → List Pair → Option Pair → Type 0
FirstFromAnswer n ps None = (q : Pair) → Contains ps q → q.first < n
FirstFromAnswer n ps (Some p) = IsFirstFrom n ps p

-- the number by which a pair is found
abbrev pub first_of : Pair → ℕ
first_of p = p.first

-- So many pairs have a lower first number, and the others don't.
pub record IsRankFrom (from : ℕ) (ps : List Pair) (rank : ℕ) : Type 0 where
  pub within : rank ≤ length ps
  pub lower : (k : ℕ) (d : Pair) → k < rank → (slice_index_or ps k d).first < from
  pub higher : (k : ℕ) (d : Pair) → rank ≤ k → k < length ps → from ≤ (slice_index_or ps k d).first

-- ---- in rising order

-- where a pair is in the order
abbrev pub key : Pair → ℕ
key p = p.first * 2 ^ 64 + p.second

-- its numbers have 64 bits
abbrev pub AreSmall : Pair → Type 0
AreSmall p = (p.first < 2 ^ 64) × (p.second < 2 ^ 64)

-- What always holds of the pairs: they rise, and their numbers have 64 bits.
pub record AreOrdered (ps : List Pair) : Type 0 where
  pub order : IsNonDecreasingBy key ps
  pub small : All AreSmall ps

-- So many pairs are lower, and the others aren't.
pub record IsRank (sought : ℕ) (ps : List Pair) (rank : ℕ) : Type 0 where
  pub within : rank ≤ length ps
  pub lower : (k : ℕ) (d : Pair) → k < rank → key (slice_index_or ps k d) < sought
  pub higher : (k : ℕ) (d : Pair) → rank ≤ k → k < length ps → sought ≤ key (slice_index_or ps k d)
