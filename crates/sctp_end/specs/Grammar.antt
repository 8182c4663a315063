-- What a line says. A line is bytes without the line feed.
use Rattle.std.specs.Prelude.{◌≡◌, ◌≢◌, ℕ, ◌<◌, List, ◌∷◌, length, Option, Some, None}
use Rattle.sctp_end.specs.declared.command.Command.{Command}
use Rattle.sctp_end.specs.declared.call.Call.{Call}
use Rattle.sctp_end.specs.Commands.{name_of, fields_of, arguments_of, meaning_of}
use Rattle.sctp_end.specs.Fields.{Value, IsValue}
use Rattle.sctp_text.specs.declared.limits.TheConstants.{LONGEST_LINE}
use Rattle.sctp_text.specs.SpacedWords.{words_of}
use Rattle.sctp_words.specs.declared.line_fault.LineError.{LineError}
use Rattle.sctp_words.specs.declared.line_fault.LineError.TheVariants as error
use Rattle.sctp_words.specs.declared.line_fault.LineFault.{LineFault}
use Rattle.sctp_words.specs.declared.line_fault.LineFault.TheVariants.{TooLong, UnknownCommand, WordCount, BadValue, PairOrder}
use Rattle.sctp_words.specs.Fields.{Values, AreValues}
use Rattle.sctp_words.specs.Lines.{IsSilent, kind_of}

-- What a command with these words asks for.
abbrev pub Spells : Command → List (List ℕ) → Call → Type 0
Spells c args call = (vs : Values Value (fields_of c)) × AreValues Value IsValue (fields_of c) args vs × (call ≡ meaning_of c vs)

-- the line is this command with these words
abbrev pub IsLineOf : List ℕ → Command → List (List ℕ) → Type 0
IsLineOf line c args = words_of line ≡ name_of c ∷ args

-- What is wrong with a line, fault by fault; with one endpoint no line is out of order.
abbrev pub HasFault : List ℕ → LineFault → Type 0
HasFault line TooLong = LONGEST_LINE < length line
HasFault line UnknownCommand = (IsSilent line → ⊥) × ((c : Command) (args : List (List ℕ)) → IsLineOf line c args → ⊥)
HasFault line WordCount = (c : Command) × (args : List (List ℕ)) × IsLineOf line c args × (length args ≢ arguments_of c)
HasFault line BadValue =
    (c : Command) × (args : List (List ℕ)) × IsLineOf line c args × (length args ≡ arguments_of c)
    × ((call : Call) → Spells c args call → ⊥)
HasFault line PairOrder = ⊥

-- of several faults the one with the smallest kind counts
abbrev pub IsFirstFaultOf : List ℕ → LineFault → Type 0
IsFirstFaultOf line fault = HasFault line fault × ((other : LineFault) → kind_of other < kind_of fault → HasFault line other → ⊥)

-- nothing is wrong with the line
abbrev pub HasNoFault : List ℕ → Type 0
HasNoFault line = (fault : LineFault) → HasFault line fault → ⊥

-- the words of the line ask for this
abbrev pub Asks : List ℕ → Call → Type 0
Asks line call = (c : Command) × (args : List (List ℕ)) × IsLineOf line c args × Spells c args call

-- What is found on a line without a fault: nothing on an empty one and on a comment.
abbrev pub Finds : List ℕ → Option Call → Type 0
Finds line None = HasNoFault line × IsSilent line
Finds line (Some call) = HasNoFault line × Asks line call

-- The fault of a line. The allocation of a word's bytes may fail, on a line of a command with as many words as it has.
abbrev pub Refuses : List ℕ → LineError → Type 0
Refuses line (error.Fault fault) = IsFirstFaultOf line fault
Refuses line error.NoMemory = (c : Command) × (args : List (List ℕ)) × IsLineOf line c args × (length args ≡ arguments_of c)
