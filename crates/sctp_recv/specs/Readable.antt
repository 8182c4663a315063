-- The next stream on which a message waits for the user.
use Rattle.std.specs.Prelude.{◌≡◌, ℕ, ◌<◌, ◌≤◌, ◌⊎◌, List, [], Option, None, Some}
use Rattle.sctp_model.specs.receiver.ReceiverView.{Handed}

-- The lowest stream from one on, on which a message waits.
pub record IsReadable (waiting : ℕ → List Handed) (from s : ℕ) : Type 0 where
  pub above : from ≤ s
  pub some : waiting s ≡ [] → ⊥
  pub first : (q : ℕ) → from ≤ q → q < s → waiting q ≡ []

-- that stream, or none waits on any from there on
abbrev pub ReadableAnswer : (waiting : ℕ → List Handed) → (from : ℕ) → Option ℕ → Type 0
ReadableAnswer waiting from None = (q : ℕ) → from ≤ q → waiting q ≡ []
ReadableAnswer waiting from (Some s) = IsReadable waiting from s

-- the lowest stream from one on, or the lowest of all if none waits on any from there on; or none waits on any
abbrev pub NextReadableAnswer : (waiting : ℕ → List Handed) → (from : ℕ) → Option ℕ → Type 0
NextReadableAnswer waiting from None = (q : ℕ) → waiting q ≡ []
NextReadableAnswer waiting from (Some s) = IsReadable waiting from s ⊎ (ReadableAnswer waiting from None × IsReadable waiting 0 s)
