-- What is answered to a line, in the words of the grammar.
use Rattle.std.specs.Prelude.{◌≡◌, ℕ, Bool, true, List, length, Option, Some, None}
use Rattle.sctp_events.specs.Events.{event_meaning}
use Rattle.sctp_words.specs.declared.line_fault.LineError.{LineError}
use Rattle.sctp_words.specs.declared.line_fault.LineError.TheVariants as error
use Rattle.sctp_script.specs.declared.command.Command.{Command}
use Rattle.sctp_script.specs.declared.line.Acting.{Acting}
use Rattle.sctp_script.specs.declared.line.Acting.TheVariants as acting
use Rattle.sctp_script.specs.Commands.{arguments_of, has_bytes}
use Rattle.sctp_script.specs.Grammar.{LineMeaning, Silent, Pairs, Acts, Fault, Says, IsLineOf}

-- what a line that acts says; of a pair A's configuration, since B's is alike
abbrev pub acting_meaning : Acting → LineMeaning
acting_meaning (acting.Pair config) = Pairs config.a
acting_meaning (acting.Event event) = Acts (event_meaning event)

-- what was found on a line without a fault
abbrev pub Finds : Bool → List ℕ → Option Acting → Type 0
Finds paired line None = Says paired line Silent
Finds paired line (Some a) = Says paired line (acting_meaning a)

-- The fault of a line. The allocation of a word's bytes may fail, on a line with as many words as its command has.
abbrev pub Refuses : Bool → List ℕ → LineError → Type 0
Refuses paired line (error.Fault fault) = Says paired line (Fault fault)
Refuses paired line error.NoMemory =
    (c : Command) × (args : List (List ℕ)) × IsLineOf line c args × (length args ≡ arguments_of c) × (has_bytes c ≡ true)
