-- The fields of a command, and the values of each.
use Rattle.std.specs.Prelude.{◌≡◌, ℕ, List, Option, Some}
use Rattle.sctp_model.specs.messages.Format.{Kind}
use Rattle.sctp_model.specs.world.World.{Side}
use Rattle.sctp_terms.specs.declared.mode.Mode.{Mode}
use Rattle.sctp_script.specs.OutcomeText.{side_word}
use Rattle.sctp_words.specs.Fields.{IsNumber, IsTag, IsUntil, IsUntilLimit, kind_word, mode_word, delay_word}
use Rattle.sctp_text.specs.Numerals.{IsHex}

-- X; a number of so many bits; TAG, which isn't 0; MODE; `delay`; KIND; UNTIL; UNTIL with a limit of retransmissions; HEX
pub data Field : Type 0 where
  ASide : Field
  ANumber : (bits : ℕ) → Field
  ATag AMode ADelay AKind AnUntil ALimit SomeBytes : Field

-- what a word of a field says
abbrev pub Value : Field → Type 0
Value ASide = Side
Value (ANumber bits) = ℕ
Value ATag = ℕ
Value AMode = Mode
Value ADelay = Unit {0}
Value AKind = Kind
Value AnUntil = Option ℕ
Value ALimit = Option ℕ × ℕ
Value SomeBytes = List ℕ

-- the word says this value
abbrev pub IsValue : (f : Field) → List ℕ → Value f → Type 0
IsValue ASide word x = word ≡ side_word x
IsValue (ANumber bits) word n = IsNumber bits word n
IsValue ATag word n = IsTag word n
IsValue AMode word m = word ≡ mode_word m
IsValue ADelay word v = word ≡ delay_word
IsValue AKind word k = word ≡ kind_word k
IsValue AnUntil word t = IsUntil word t
IsValue ALimit word (t, n) = IsUntilLimit word t (Some n)
IsValue SomeBytes word bytes = IsHex word bytes
