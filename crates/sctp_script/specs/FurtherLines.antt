-- The further commands, which only a script with a line of options has: `reset` and `resets` (RFC 6525), and those of the clock of one endpoint, `later` and
-- `moment`.
use Rattle.std.specs.Prelude.{◌≡◌, ◌≢◌, ℕ, ◌≤◌, List, [], ◌∷◌, length, codes}
use Rattle.sctp_model.specs.world.Events.{Later, Moment, Reset, WasReset}
use Rattle.sctp_events.specs.Events.{Wanted, Happens}
use Rattle.sctp_words.specs.declared.line_fault.LineFault.TheVariants.{TooLong, UnknownCommand, WordCount, BadValue, PairOrder}
use Rattle.sctp_words.specs.Fields.{Values, AreValues}
use Rattle.sctp_script.specs.declared.further_line.FurtherCommand.{FurtherCommand}
use Rattle.sctp_script.specs.declared.further_line.FurtherCommand.TheVariants as command
use Rattle.sctp_script.specs.Fields.{Field, ASide, ANumber, Value, IsValue}
use Rattle.sctp_script.specs.Grammar.{LineMeaning, Silent, Pairs, Acts, Fault}
use Rattle.sctp_text.specs.declared.limits.TheConstants.{LONGEST_LINE}
use Rattle.sctp_text.specs.SpacedWords.{words_of}

-- the word that such a command is
abbrev pub further_name : FurtherCommand → List ℕ
further_name command.Reset = codes "reset"
further_name command.Resets = codes "resets"
further_name command.Later = codes "later"
further_name command.Moment = codes "moment"

-- reset X STREAM; resets X; later X T; moment X
abbrev pub further_fields : FurtherCommand → List Field
further_fields command.Reset = ASide ∷ ANumber 16 ∷ []
further_fields command.Resets = ASide ∷ []
further_fields command.Later = ASide ∷ ANumber 64 ∷ []
further_fields command.Moment = ASide ∷ []

-- the number of words after its name
abbrev pub further_arguments : FurtherCommand → ℕ
further_arguments c = length (further_fields c)

-- a value for each field
abbrev pub FurtherValues : FurtherCommand → Type 0
FurtherValues c = Values Value (further_fields c)

-- what it asks for with these values
abbrev pub further_wanted : (c : FurtherCommand) → FurtherValues c → Wanted
further_wanted command.Reset (x, (stream, rest)) = Happens (Reset x stream)
further_wanted command.Resets (x, rest) = Happens (WasReset x)
further_wanted command.Later (x, (moment, rest)) = Happens (Later x moment)
further_wanted command.Moment (x, rest) = Happens (Moment x)

-- the words say these values
abbrev pub AreOfFurther : (c : FurtherCommand) → List (List ℕ) → FurtherValues c → Type 0
AreOfFurther c args vs = AreValues Value IsValue (further_fields c) args vs

-- the words ask for this
abbrev pub AsksFurther : FurtherCommand → List (List ℕ) → Wanted → Type 0
AsksFurther c args w = (vs : FurtherValues c) × AreOfFurther c args vs × (w ≡ further_wanted c vs)

-- What a command with these words says: another number of words is a fault, and so is a word that isn't a value of its field.
abbrev pub FurtherSpells : FurtherCommand → List (List ℕ) → LineMeaning → Type 0
FurtherSpells c args (Acts w) = AsksFurther c args w
FurtherSpells c args (Fault WordCount) = length args ≢ further_arguments c
FurtherSpells c args (Fault BadValue) = (length args ≡ further_arguments c) × ((vs : FurtherValues c) → AreOfFurther c args vs → ⊥)
FurtherSpells c args (Fault TooLong) = ⊥
FurtherSpells c args (Fault UnknownCommand) = ⊥
FurtherSpells c args (Fault PairOrder) = ⊥
FurtherSpells c args Silent = ⊥
FurtherSpells c args (Pairs configuration) = ⊥

-- the line is this command with these words
abbrev pub IsFurtherLine : List ℕ → FurtherCommand → List (List ℕ) → Type 0
IsFurtherLine line c args = (length line ≤ LONGEST_LINE) × (words_of line ≡ further_name c ∷ args)

-- the line is no such line
abbrev pub IsNotFurther : List ℕ → Type 0
IsNotFurther line = (c : FurtherCommand) (args : List (List ℕ)) → IsFurtherLine line c args → ⊥

-- what such a line says
abbrev pub SaysFurther : List ℕ → LineMeaning → Type 0
SaysFurther line m = (c : FurtherCommand) × (args : List (List ℕ)) × IsFurtherLine line c args × FurtherSpells c args m
