-- Which streams a FORWARD goes to because of its index.
use Rattle.std.specs.Prelude.{ℕ, ◌+◌, ◌<◌, ◌≤◌}
use Rattle.sctp_recv.specs.inner.Places.{low_at}
use Rattle.sctp_recv.specs.declared.places.Lows.{Lows}

-- a FORWARD up to the index goes to the stream
abbrev pub IsMarked : Lows → (s i : ℕ) → Type 0
IsMarked lows s i = (s < lows.count) × (low_at lows.places.items (lows.count + s) ≤ i)
