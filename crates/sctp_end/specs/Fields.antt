-- The fields of a line and of the words that the program is started with: what a word of each says.
use Rattle.std.specs.Prelude.{◌≡◌, ℕ, List, Option}
use Rattle.sctp_values.specs.declared.kind.Kind as kinds
use Rattle.sctp_values.specs.Meanings.{kind_meaning}
use Rattle.sctp_terms.specs.declared.mode.Mode as modes
use Rattle.sctp_text.specs.Numerals.{IsHex}
use Rattle.sctp_words.specs.Fields.{IsNumber, IsTag, IsUntilLimit, kind_word, mode_word}

-- a number of so many bits; TAG; KIND; UNTIL, which may have a limit of retransmissions; HEX; MODE
pub data Field : Type 0 where
  ANumber : (bits : ℕ) → Field
  ATag AKind AnUntil SomeBytes AMode : Field

-- what a word of a field says
abbrev pub Value : Field → Type 0
Value (ANumber bits) = ℕ
Value ATag = ℕ
Value AKind = kinds.Kind
Value AnUntil = Option ℕ × Option ℕ
Value SomeBytes = List ℕ
Value AMode = modes.Mode

-- the word says this value
abbrev pub IsValue : (f : Field) → List ℕ → Value f → Type 0
IsValue (ANumber bits) word n = IsNumber bits word n
IsValue ATag word n = IsTag word n
IsValue AKind word k = word ≡ kind_word (kind_meaning k)
IsValue AnUntil word (until, limit) = IsUntilLimit word until limit
IsValue SomeBytes word bytes = IsHex word bytes
IsValue AMode word m = word ≡ mode_word m
