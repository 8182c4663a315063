-- Numbers in pages of 64, with a number for each page that is no more than its own.
use Rattle.std.specs.Prelude.{◌≡◌, ℕ, ◌+◌, ◌/◌, ◌<◌, ◌≤◌, List, length, slice_index_or}

-- the numbers, and for how many there is memory
pub record NumbersKept : Type 0 where
  pub items : List ℕ
  pub capacity : ℕ

-- Each page of 64 numbers has one that is no more than these.
pub record AreLeast (ns leasts : List ℕ) : Type 0 where
  pub many : length leasts ≡ (length ns + 63) / 64
  pub least : (k d : ℕ) → k < length ns → slice_index_or leasts (k / 64) d ≤ slice_index_or ns k d

-- a number is no more than any of these
abbrev pub IsLeast : (number : ℕ) → List ℕ → Type 0
IsLeast n ns = (k d : ℕ) → k < length ns → n ≤ slice_index_or ns k d

-- What always holds of the numbers, those of the pages, and that of all.
pub record ArePages (ns leasts : List ℕ) (least : ℕ) : Type 0 where
  pub pages : AreLeast ns leasts
  pub first : IsLeast least leasts
