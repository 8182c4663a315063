-- The maximal runs of recorded indexes above the cumulative one, computed by a walk over the indexes.
use Rattle.std.specs.Prelude.{ℕ, zero, suc, ◌+◌, ◌-◌, Bool, true, false, List, [], ◌∷◌, Option, Some, None}
use Rattle.sctp_model.specs.wire.Chunk.{BlockMeaning}
use Rattle.sctp_model.specs.receiver.ReceiverView.{ReceiverView}

-- a run from one offset on, up to the one before another
abbrev pub block : ℕ → ℕ → BlockMeaning
block start past = record { start = start; end = past - 1 }

-- the run that is open when the walk ends
abbrev pub run_closed : Option ℕ → ℕ → List BlockMeaning
run_closed None k = []
run_closed (Some start) k = block start k ∷ []

-- one offset: a run opens or goes on if the index is recorded, and ends if it isn't
abbrev pub walked : Bool → Option ℕ → ℕ → (Option ℕ → ℕ → List BlockMeaning) → List BlockMeaning
walked true None k more = more (Some k) (suc k)
walked true (Some start) k more = more (Some start) (suc k)
walked false None k more = more None (suc k)
walked false (Some start) k more = block start k ∷ more None (suc k)

-- the runs that are found over this many offsets from the k-th on; if one is open, it started at that offset
abbrev pub runs_from : (ℕ → Bool) → (c : ℕ) → (depth : ℕ) → Option ℕ → ℕ → List BlockMeaning
runs_from seen c zero begun k = run_closed begun k
runs_from seen c (suc depth) begun k = walked (seen (c + k)) begun k (runs_from seen c depth)

-- all runs above c, if no index above the bound was recorded
abbrev pub all_runs : ReceiverView → (c bound : ℕ) → List BlockMeaning
all_runs r c bound = runs_from r.seen c bound None 2
