-- What is answered to a line that isn't one of options, before and after the `pair` line.
use Rattle.std.specs.Prelude.{ℕ, Bool, true, List, Option, Some, None}
use Rattle.sctp_words.specs.declared.line_fault.LineError.{LineError}
use Rattle.sctp_words.specs.declared.line_fault.LineError.TheVariants as error
use Rattle.sctp_script.specs.declared.placed.Placed.{Placed}
use Rattle.sctp_script.specs.Grammar.{Silent, Fault}
use Rattle.sctp_script.specs.Places.{Plain, SaysPlain, SaysUnlimited, SaysPaired}
use Rattle.sctp_script.specs.PlacedAnswer.{placed_meaning}
use Rattle.sctp_script.specs.ReadLineAnswer.{Refuses}

-- what was found on it
abbrev pub FindsPlain : Bool → List ℕ → Option Placed → Type 0
FindsPlain paired line None = SaysPlain paired line (Plain Silent)
FindsPlain paired line (Some p) = SaysPlain paired line (placed_meaning p)

-- why it is refused
abbrev pub RefusesPlain : Bool → List ℕ → LineError → Type 0
RefusesPlain paired line (error.Fault fault) = SaysPlain paired line (Plain (Fault fault))
RefusesPlain paired line error.NoMemory = Refuses paired line error.NoMemory

-- the same of one that isn't a `send` with a limit either, in a script with a line of options
abbrev pub FindsUnlimited : List ℕ → Option Placed → Type 0
FindsUnlimited line None = SaysUnlimited line (Plain Silent)
FindsUnlimited line (Some p) = SaysUnlimited line (placed_meaning p)

-- and why it is refused
abbrev pub RefusesUnlimited : List ℕ → LineError → Type 0
RefusesUnlimited line (error.Fault fault) = SaysUnlimited line (Plain (Fault fault))
RefusesUnlimited line error.NoMemory = Refuses true line error.NoMemory

-- the same after the `pair` line, in a script with a line of options or in one without
abbrev pub FindsPaired : (with_options : Bool) → List ℕ → Option Placed → Type 0
FindsPaired with_options line None = SaysPaired with_options line (Plain Silent)
FindsPaired with_options line (Some p) = SaysPaired with_options line (placed_meaning p)

-- and why it is refused
abbrev pub RefusesPaired : (with_options : Bool) → List ℕ → LineError → Type 0
RefusesPaired with_options line (error.Fault fault) = SaysPaired with_options line (Plain (Fault fault))
RefusesPaired with_options line error.NoMemory = Refuses true line error.NoMemory
