-- What is answered to a line at its place, in the words of the grammar.
use Rattle.std.specs.Prelude.{ℕ, Bool, true, false, List, Option, Some, None}
use Rattle.sctp_events.specs.Events.{event_meaning}
use Rattle.sctp_events.specs.declared.two_configs.TwoConfigs.{TwoConfigs}
use Rattle.sctp_words.specs.declared.line_fault.LineError.{LineError}
use Rattle.sctp_words.specs.declared.line_fault.LineError.TheVariants as error
use Rattle.sctp_script.specs.declared.placed.Place.{Place}
use Rattle.sctp_script.specs.declared.placed.Place.TheVariants as place
use Rattle.sctp_script.specs.declared.placed.Preamble.{Preamble}
use Rattle.sctp_script.specs.declared.placed.Placed.{Placed}
use Rattle.sctp_script.specs.declared.placed.Placed.TheVariants as placed
use Rattle.sctp_script.specs.Grammar.{Silent, Pairs, Acts, Fault}
use Rattle.sctp_script.specs.Places as places
use Rattle.sctp_script.specs.Places.{PlacedMeaning, Plain, Configures, SaysAt, is_paired}
use Rattle.sctp_script.specs.ReadLineAnswer.{Refuses}

-- the place
abbrev pub place_meaning : Place → places.Place
place_meaning place.Unpaired = places.Unpaired
place_meaning (place.Behind configs with_options) = places.Behind with_options configs.a configs.b
place_meaning (place.Acted with_options) = places.Acted with_options

-- the place of a line after the `pair` line, by the configurations that are kept until a line asks something of the endpoints
abbrev pub paired_place : Option TwoConfigs → (with_options : Bool) → places.Place
paired_place (Some configs) with_options = places.Behind with_options configs.a configs.b
paired_place None with_options = places.Acted with_options

-- the place of a line, by whether there was a `pair` line, and what the lines before it said
abbrev pub place_at : (paired : Bool) → Preamble → places.Place
place_at false preamble = places.Unpaired
place_at true preamble = paired_place preamble.fresh preamble.with_options

-- what a line that asks for something says; of a pair A's configuration, since B's is alike
abbrev pub placed_meaning : Placed → PlacedMeaning
placed_meaning (placed.Pair config) = Plain (Pairs config.a)
placed_meaning (placed.Options configs) = Configures configs.a configs.b
placed_meaning (placed.Event event) = Plain (Acts (event_meaning event))

-- what was found on a line without a fault
abbrev pub FindsAt : places.Place → List ℕ → Option Placed → Type 0
FindsAt at line None = SaysAt at line (Plain Silent)
FindsAt at line (Some p) = SaysAt at line (placed_meaning p)

-- the fault of a line, or a failed allocation
abbrev pub RefusesAt : places.Place → List ℕ → LineError → Type 0
RefusesAt at line (error.Fault fault) = SaysAt at line (Plain (Fault fault))
RefusesAt at line error.NoMemory = Refuses (is_paired at) line error.NoMemory
