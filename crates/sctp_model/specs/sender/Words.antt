-- Words that the sender's definitions share: on what may be absent, on counting, and on searching among counted things.
use Rattle.std.specs.Prelude.{ℕ, zero, suc, ◌+◌, Bool, false, if◌then◌else◌, List, [], ◌∷◌, Option, None, Some}
use Rattle.std.specs.Option.{option_or}

-- ---- what may be absent

-- this, if the test holds
abbrev pub when : {A : Type 0} → Bool → A → Option A
when holds x = if holds then Some x else None

-- the first of these that is there
abbrev pub first_there : {A : Type 0} → List (Option A) → Option A
first_there [] = None
first_there (o ∷ os) = option_or o (first_there os)

-- it is there, and passes
abbrev pub some_passes : {A : Type 0} → (A → Bool) → Option A → Bool
some_passes test None = false
some_passes test (Some x) = test x

-- ---- counting

-- this many numbers, upward from one on
abbrev pub count_up : (from many : ℕ) → List ℕ
count_up i zero = []
count_up i (suc n) = i ∷ count_up (suc i) n

-- the sum over the numbers below a bound
abbrev pub sum_below : (ℕ → ℕ) → ℕ → ℕ
sum_below summand zero = 0
sum_below summand (suc n) = sum_below summand n + summand n

-- the lowest of the numbers 1 to n that passes
abbrev pub lowest : (ℕ → Bool) → (n : ℕ) → Option ℕ
lowest test zero = None
lowest test (suc n) = option_or (lowest test n) (when (test (suc n)) (suc n))

-- the largest number up to this one that passes, 0 if none does
abbrev pub last_that : (ℕ → Bool) → ℕ → ℕ
last_that passes zero = 0
last_that passes (suc n) = if passes (suc n) then suc n else last_that passes n
