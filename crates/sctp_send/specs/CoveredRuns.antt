-- What the last SACK covers above CUM, run by run (RFC 9260, 3.3.4).
use Rattle.std.specs.Prelude.{◌≡◌, ℕ, ◌+◌, ◌-◌, ◌<◌, ◌≤◌, nat_lt, nat_le, Bool, false, ◌&&◌, ◌||◌, List, [], ◌∷◌, map, drop, Option, None, Some}
use Rattle.sctp_model.specs.wire.Chunk.{BlockMeaning}
use Rattle.sctp_model.specs.messages.Acknowledgement.{in_blocks}
use Rattle.sctp_send.specs.declared.kept.entry.CoveredRun.{CoveredRun}

-- an offset above CUM lies in the run
abbrev pub in_run : CoveredRun → (offset : ℕ) → Bool
in_run r i = nat_lt r.from i && nat_le i r.to

-- in one of the runs
abbrev pub in_runs : List CoveredRun → (offset : ℕ) → Bool
in_runs [] i = false
in_runs (r ∷ rs) i = in_run r i || in_runs rs i

-- The runs stand in order, the first one no lower than here: each ends where or before the next one begins.
abbrev pub AreInOrder : (here : ℕ) → List CoveredRun → Type 0
AreInOrder n [] = Unit {0}
AreInOrder n (r ∷ rs) = (n ≤ r.from) × (r.from ≤ r.to) × AreInOrder r.to rs

-- behind this offset the first so many runs hold nothing
abbrev pub HasPassed : List CoveredRun → (first offset : ℕ) → Type 0
HasPassed rs k n = (i : ℕ) → n < i → in_runs rs i ≡ in_runs (drop k rs) i

-- The runs are in order, and what is covered above CUM lies in them. None are kept where there were too many.
abbrev pub AreCovered : Option (List CoveredRun) → (covered : ℕ → Bool) → (cum : ℕ) → Type 0
AreCovered None covered cum = Unit {0}
AreCovered (Some rs) covered cum = AreInOrder 0 rs × ((i : ℕ) → 0 < i → covered (cum + i) ≡ in_runs rs i)

-- The runs are in order, and an offset lies in one just where it lies in a block of the SACK.
pub record HoldsBlocks (rs : List CoveredRun) (bs : List BlockMeaning) : Type 0 where
  pub order : AreInOrder 0 rs
  pub same : (i : ℕ) → 0 < i → in_runs rs i ≡ in_blocks 0 bs i

-- a run, once CUM has passed so many entries more
abbrev pub run_behind : (passed : ℕ) → CoveredRun → CoveredRun
run_behind n r = record { from = r.from - n; to = r.to - n }

-- all runs then
abbrev pub runs_behind : (passed : ℕ) → List CoveredRun → List CoveredRun
runs_behind n rs = map (run_behind n) rs
