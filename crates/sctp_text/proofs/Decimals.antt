-- A word that says a number is text.
use Rattle.std.proofs.Common.{◌≡◌, ℕ, List, None, Result, Ok, Err}
use Rattle.std.specs.Prelude.{MatchResult}
use Rattle.std.specs.Result.{result_ok}
use Rattle.std.specs.Str.{IsUtf8}
use Rattle.std.proofs.lemmas.Fmt.{IsAscii-from_digits}
use Rattle.std.proofs.lemmas.Str.{IsUtf8-from_ascii}
use Rattle.sctp_text.specs.Numerals.{IsDecimal}

-- what isn't text says no number
pub no_text : (w : List ℕ) (n : ℕ) → (IsUtf8 w → ⊥) → IsDecimal w n → ⊥
no_text w n none is = none (IsUtf8-from_ascii w (IsAscii-from_digits w is.digits.1))

-- the first half of a refusal
pub refused : {T E : Type 0} (P : T → Type 0) (Q : Type 0) (R : E → Type 0) (r : Result T E) → MatchResult r P (λ e. Q × R e) → None ≡ result_ok r → Q
refused P Q R (Ok x) cases none = cc
refused P Q R (Err e) cases none = cases.0
