-- Runs of indexes, each told by its first and its last.
use Rattle.std.specs.Prelude.{◌≡◌, ℕ, suc, ◌-◌, ◌<◌, ◌≤◌, Bool, true, false, ◌&&◌, ◌||◌, nat_lt, nat_le, ◌==◌, List, get_or, take, drop}
use Rattle.std.specs.List.{list_any}
use Rattle.sctp_model.specs.numbers.Lists.{Has, AreInOrder}
use Rattle.sctp_recv.specs.declared.runs.SeenRun.{SeenRun}

-- ---- what runs hold

-- the run has the index
abbrev pub in_run : SeenRun → ℕ → Bool
in_run r i = nat_le r.first i && nat_le i r.last

-- one of the runs has it
abbrev pub in_runs : List SeenRun → ℕ → Bool
in_runs rs i = list_any (λ (r : SeenRun). in_run r i) rs

-- ---- runs that neither touch nor overlap

-- an index lies between the end of the one and the beginning of the other
abbrev pub IsApart : SeenRun → SeenRun → Type 0
IsApart low high = suc low.last < high.first

-- Every run has an index, and each lies apart from those behind it.
pub record AreSpaced (rs : List SeenRun) : Type 0 where
  pub some : (r : SeenRun) → Has rs r → r.first ≤ r.last
  pub apart : AreInOrder IsApart rs

-- Every run lies apart from c, too.
pub record AreRuns (c : ℕ) (rs : List SeenRun) : Type 0 where
  pub spaced : AreSpaced rs
  pub above : (r : SeenRun) → Has rs r → suc c < r.first

-- ---- places

-- the run ends before the index, and doesn't touch it
abbrev pub lies_below : ℕ → SeenRun → Bool
lies_below i r = nat_lt r.last (i - 1)

-- the run begins at the index right after this one at the latest
abbrev pub begins_by : ℕ → SeenRun → Bool
begins_by i r = nat_le (r.first - 1) i

-- So many runs at the front pass the test, and none behind them does.
pub record IsPlace (test : SeenRun → Bool) (rs : List SeenRun) (k : ℕ) : Type 0 where
  pub front : (r : SeenRun) → Has (take k rs) r → test r ≡ true
  pub back : (r : SeenRun) → Has (drop k rs) r → test r ≡ false

-- all runs before a place end before the index, and don't touch it
abbrev pub AllBelow : ℕ → List SeenRun → ℕ → Type 0
AllBelow i rs k = (r : SeenRun) → Has (take k rs) r → lies_below i r ≡ true

-- The run right before a place, which doesn't.
pub record IsReaching (i : ℕ) (rs : List SeenRun) (k : ℕ) (r : SeenRun) : Type 0 where
  pub there : r ≡ get_or rs (k - 1) r
  pub reaches : lies_below i r ≡ false

-- ---- one index more

-- the runs above c have this index now, beside those that they had
pub record HaveMore (c i : ℕ) (old new : List SeenRun) : Type 0 where
  pub runs : AreRuns c new
  pub holds : (j : ℕ) → in_runs new j ≡ (in_runs old j || (j == i))

-- they have it whatever c is, if only it lies apart from c and is new
abbrev pub Gain : ℕ → List SeenRun → List SeenRun → Type 0
Gain i old new = (c : ℕ) → AreRuns c old → suc c < i → in_runs old i ≡ false → HaveMore c i old new
