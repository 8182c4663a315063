-- A message cut into fragments, as a relation (RFC 9260, 6.9).
use Rattle.std.specs.Prelude.{◌≡◌, ◌↔◌, ℕ, ◌<◌, ◌≤◌, List, [], ◌∷◌, length}
use Rattle.sctp_model.specs.numbers.Lists.{joined}
use Rattle.sctp_model.specs.sender.Queueing.{cut}

-- a fragment with others after it has the full size; the last one has a byte at least, and no more than the full size
abbrev pub IsSized : (size : ℕ) → (fragment : List ℕ) → (behind : List (List ℕ)) → Type 0
IsSized size x [] = (0 < length x) × (length x ≤ size)
IsSized size x (y ∷ ys) = length x ≡ size

-- each of these is
abbrev pub AreSized : (size : ℕ) → List (List ℕ) → Type 0
AreSized size [] = Unit {0}
AreSized size (x ∷ xs) = IsSized size x xs × AreSized size xs

-- joined they are the message
pub record IsCut (size : ℕ) (bytes : List ℕ) (xs : List (List ℕ)) : Type 0 where
  pub whole : joined xs ≡ bytes
  pub sized : AreSized size xs

-- So a message is cut, and in no other way.
abbrev pub CutIsComputed : Type 0
CutIsComputed = (size : ℕ) (bytes : List ℕ) (xs : List (List ℕ)) → 0 < size → (xs ≡ cut size bytes) ↔ IsCut size bytes xs
