-- When fragments went out last, kept for those alone that went out again or were taken back (`went` of `Misses`).
use Rattle.std.specs.Prelude.{◌≡◌, ℕ, suc, ◌+◌, ◌-◌, ◌<◌, ◌≤◌, nat_lt, Bool, if◌then◌else◌, ◌==◌, List, length, slice_index_or}
use Rattle.std.specs.List.{list_any, All}

-- no index with a number is larger
abbrev pub last_index : ℕ
last_index = 18_446_744_073_709_551_614

-- What is kept: a number for each index after `base`, as many as there are entries; the last index for which there is memory; and an index from which on none
-- has a number that is less than itself, as one has that was taken back before it was sent.
pub record WentKept : Type 0 where
  pub base : ℕ
  pub entries : List ℕ
  pub room : ℕ
  pub early_end : ℕ

-- that of an index; each without an entry went out once
abbrev pub went_at : WentKept → ℕ → ℕ
went_at k i = if nat_lt k.base i then slice_index_or k.entries (i - suc k.base) i else i

-- It is kept for each index above CUM.
pub record WentStands (cum : ℕ) (k : WentKept) (went : ℕ → ℕ) : Type 0 where
  pub base : k.base ≤ cum
  pub each : (i : ℕ) → cum < i → went_at k i ≡ went i
  pub late : (i : ℕ) → cum < i → k.early_end ≤ i → i ≤ went i

-- the index is one of these
abbrev pub is_among : List ℕ → ℕ → Bool
is_among is i = list_any (λ j. j == i) is

-- the same numbers, but that these indexes have another one
abbrev pub went_again : List ℕ → (last : ℕ) → (ℕ → ℕ) → ℕ → ℕ
went_again is last went = λ i. if is_among is i then last else went i

-- These are the indexes above CUM for which a test holds, and none is past the room for them.
pub record AreThose (test : ℕ → Bool) (cum room : ℕ) (is : List ℕ) : Type 0 where
  pub those : (i : ℕ) → cum < i → is_among is i ≡ test i
  pub within : All (λ i. i ≤ room) is

-- These entries with those that follow up to a place, each of which is the index of its place.
pub record IsLengthened (base at : ℕ) (old new : List ℕ) : Type 0 where
  pub long : at < length new
  pub each : (k : ℕ) → slice_index_or new k (suc base + k) ≡ slice_index_or old k (suc base + k)
