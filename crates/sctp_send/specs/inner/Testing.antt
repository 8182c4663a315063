-- A test of indexes, at the offsets above CUM.
use Rattle.std.specs.Prelude.{ℕ, zero, suc, ◌+◌, ◌%◌, ◌^◌, nat_le, nat_lt, Bool, ◌&&◌, if◌then◌else◌, List, [], ◌∷◌}

-- the index at an offset, in 64 bits
abbrev pub index_of : (cum at : ℕ) → ℕ
index_of cum at = (cum + at + 1) % 2 ^ 64

-- the offset is in a range, and its index passes
abbrev pub passes_between : (says : ℕ → Bool) → (cum from to : ℕ) → ℕ → Bool
passes_between says cum from to k = (nat_le from k && nat_lt k to) && says (index_of cum k)

-- of so many offsets, from one on, those that pass
abbrev pub offsets_that : (ℕ → Bool) → (from many : ℕ) → List ℕ
offsets_that test i zero = []
offsets_that test i (suc n) = if test i then i ∷ offsets_that test (suc i) n else offsets_that test (suc i) n
