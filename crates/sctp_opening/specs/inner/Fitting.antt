-- A list of parameters or causes as it is written, to which those items are appended that fit a limit on its bytes.
use Rattle.std.specs.Prelude.{ℕ, nat_le, if◌then◌else◌, List, [], ◌∷◌, ◌++◌, length}
use Rattle.sctp_model.specs.wire.Typed.{Typed, WritesTyped, typed_bytes, filled}
use Rattle.sctp_opening.specs.inner.Asked.{is_reported}

-- the bytes of a list with one item more
abbrev pub appended : List ℕ → Typed → List ℕ
appended bytes x = filled bytes ++ typed_bytes x

-- the list with the item if it then has at most `most` bytes, else the list as it was
abbrev pub appended_within : (most : ℕ) → List ℕ → Typed → List ℕ
appended_within most bytes x = if nat_le (length (appended bytes x)) most then appended bytes x else bytes

-- so, if a parameter of this type is reported; else the list as it was
abbrev pub told_within : (most : ℕ) → List ℕ → (kind : ℕ) → Typed → List ℕ
told_within most bytes kind x = if is_reported kind then appended_within most bytes x else bytes

-- one item after another, each that fits
abbrev pub all_within : (most : ℕ) → List ℕ → List Typed → List ℕ
all_within most bytes [] = bytes
all_within most bytes (x ∷ xs) = all_within most (appended_within most bytes x) xs

-- the bytes are those of some list, as it is written
abbrev pub IsList : List ℕ → Type 0
IsList bytes = (xs : List Typed) × WritesTyped bytes xs
