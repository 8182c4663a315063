-- A line `send` with a limit of retransmissions (RFC 7496, 3.1), which a script with a line of options may have.
use Rattle.std.specs.Prelude.{ℕ, ◌≤◌, List, [], ◌∷◌, length, Some}
use Rattle.sctp_model.specs.world.Events.{Send}
use Rattle.sctp_events.specs.Events.{Wanted, Happens}
use Rattle.sctp_words.specs.Fields.{Values, AreValues}
use Rattle.sctp_script.specs.declared.command.Command.TheVariants as command
use Rattle.sctp_script.specs.Fields.{Field, ASide, ANumber, AKind, ALimit, SomeBytes, Value, IsValue}
use Rattle.sctp_script.specs.Grammar.{IsLineOf}
use Rattle.sctp_text.specs.declared.limits.TheConstants.{LONGEST_LINE}

-- send X STREAM KIND ID UNTIL HEX, UNTIL with a limit
abbrev pub limited_fields : List Field
limited_fields = ASide ∷ ANumber 16 ∷ AKind ∷ ANumber 32 ∷ ALimit ∷ SomeBytes ∷ []

-- a value for each of these fields
abbrev pub LimitedValues : Type 0
LimitedValues = Values Value limited_fields

-- what a line with these values asks for
abbrev pub limited_send : LimitedValues → Wanted
limited_send (x, (stream, (kind, (payload, (until, (bytes, rest)))))) =
    Happens (Send x (record { lane = record { stream = stream; kind = kind }; payload = payload; bytes = bytes; until = until.0; limit = Some until.1 }))

-- the words say these values
abbrev pub AreLimited : List (List ℕ) → LimitedValues → Type 0
AreLimited args vs = AreValues Value IsValue limited_fields args vs

-- the line is a `send` with these values
pub record IsLimitedSend (line : List ℕ) (vs : LimitedValues) : Type 0 where
  pub short : length line ≤ LONGEST_LINE
  pub args : List (List ℕ)
  pub line_is : IsLineOf line command.Send args
  pub values : AreLimited args vs

-- the line is no such line
abbrev pub HasNoLimit : List ℕ → Type 0
HasNoLimit line = (vs : LimitedValues) → IsLimitedSend line vs → ⊥
