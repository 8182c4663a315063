-- The indexes that came, as they are kept.
use Rattle.std.specs.Prelude.{◌≡◌, ℕ, ◌+◌, ◌≤◌, Bool, true, ◌||◌, nat_le, List}
use Rattle.sctp_model.specs.numbers.Limits.{WINDOW}
use Rattle.sctp_recv.specs.declared.runs.SeenRun.{SeenRun}
use Rattle.sctp_recv.specs.Runs.{in_runs, AreRuns}

-- The index up to which nothing is missing, and the runs above it.
pub record SeenKept : Type 0 where
  pub cumulative : ℕ
  pub runs : List SeenRun

-- The same, and whether there is room for one run more.
pub record SeenRoom : Type 0 where
  pub kept : SeenKept
  pub room : Bool

-- the same by its two parts
abbrev pub seen_of : (cumulative : ℕ) → List SeenRun → SeenKept
seen_of c rs = record { cumulative = c; runs = rs }

-- nothing is missing up to the index, or a run has it
abbrev pub is_reached : SeenKept → ℕ → Bool
is_reached k i = nat_le i k.cumulative || in_runs k.runs i

-- the same, and whether there is room
abbrev pub with_room : SeenKept → Bool → SeenRoom
with_room k r = record { kept = k; room = r }

-- no run has an index past the bound
abbrev pub AreWithin : (bound : ℕ) → List SeenRun → Type 0
AreWithin bound rs = (i : ℕ) → in_runs rs i ≡ true → i ≤ bound

-- What always holds of it: the runs lie apart from the cumulative index and from each other, within the window (RFC 9260, 6.2).
pub record IsKept (c : ℕ) (rs : List SeenRun) : Type 0 where
  pub runs : AreRuns c rs
  pub within : AreWithin (c + WINDOW) rs

-- From an index on, what it touches was passed: the same indexes are reached.
pub record IsAdvanced (i : ℕ) (rs : List SeenRun) (k : SeenKept) : Type 0 where
  pub runs : AreRuns k.cumulative k.runs
  pub past : i ≤ k.cumulative
  pub same : (j : ℕ) → is_reached k j ≡ is_reached (seen_of i rs) j
