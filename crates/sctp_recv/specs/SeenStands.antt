-- What a view's recorded indexes, and its largest FORWARD index, have to do with what is kept of them (RFC 9260, 6.2; RFC 3758, 3.6).
use Rattle.std.specs.Prelude.{◌≡◌, ℕ, ◌<◌, ◌≤◌, ◌⊎◌, max, Bool, true}
use Rattle.sctp_model.specs.numbers.Lists.{at}
use Rattle.sctp_recv.specs.Runs.{in_runs, AreRuns}
use Rattle.sctp_recv.specs.SeenKept.{SeenKept}

-- Above the cumulative index what was recorded is exactly what the runs have. Up to it each index was recorded or passed by a FORWARD, and
-- which of the two isn't kept.
pub record SeenStands (k : SeenKept) (seen : ℕ → Bool) (jump : ℕ) : Type 0 where
  pub runs : AreRuns k.cumulative k.runs
  pub below : (i : ℕ) → 0 < i → i ≤ k.cumulative → (seen i ≡ true) ⊎ (i ≤ jump)
  pub above : (i : ℕ) → k.cumulative < i → seen i ≡ in_runs k.runs i
  pub jumped : jump ≤ k.cumulative

-- From k to l an index was recorded, whatever the view.
abbrev pub Records : (k l : SeenKept) → ℕ → Type 0
Records k l i = (seen : ℕ → Bool) (jump : ℕ) → SeenStands k seen jump → SeenStands l (at seen i true) jump

-- From k to l a FORWARD up to an index was taken, whatever the view.
abbrev pub Jumps : (k l : SeenKept) → ℕ → Type 0
Jumps k l p = (seen : ℕ → Bool) (jump : ℕ) → SeenStands k seen jump → SeenStands l seen (max jump p)
