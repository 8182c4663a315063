-- The script's grammar: what a line says. A line is bytes without the line feed.
use Rattle.std.specs.Prelude.{◌≡◌, ◌≢◌, ℕ, ◌<◌, Bool, true, List, ◌∷◌, length, None}
use Rattle.sctp_model.specs.end.EndView.{Configuration, Draw}
use Rattle.sctp_model.specs.end.Configured.{configuration_fault}
use Rattle.sctp_model.specs.world.Events.{OpenBoth, At, Drawing, Connect, Build, Deliver, Send, Abandon, Take, Shutdown, Abort}
use Rattle.sctp_terms.specs.Modes.{asked}
use Rattle.sctp_events.specs.Events.{Wanted, Happens, BringsBytes}
use Rattle.sctp_words.specs.declared.line_fault.LineFault.{LineFault}
use Rattle.sctp_words.specs.declared.line_fault.LineFault.TheVariants.{TooLong, UnknownCommand, WordCount, BadValue, PairOrder}
use Rattle.sctp_words.specs.Fields.{Values, AreValues}
use Rattle.sctp_words.specs.Lines.{IsSilent, kind_of}
use Rattle.sctp_script.specs.declared.command.Command.{Command}
use Rattle.sctp_script.specs.declared.command.Command.TheVariants as command
use Rattle.sctp_script.specs.Commands.{name_of, fields_of, arguments_of, is_pair}
use Rattle.sctp_script.specs.Configuration.{sizes}
use Rattle.sctp_script.specs.Fields.{Value, IsValue}
use Rattle.sctp_text.specs.declared.limits.TheConstants.{LONGEST_LINE}
use Rattle.sctp_text.specs.SpacedWords.{words_of}

-- What a line may say: nothing; that a pair is made, whose A has this configuration; that something happens to it; or that it has a fault.
pub data LineMeaning : Type 0 where
  Silent : LineMeaning
  Pairs : (configuration : Configuration) → LineMeaning
  Acts : (wanted : Wanted) → LineMeaning
  Fault : (fault : LineFault) → LineMeaning

-- ---- what words say

-- a value for each field of a command
abbrev pub CommandValues : Command → Type 0
CommandValues c = Values Value (fields_of c)

-- the draw of a TAG and a TSN
abbrev pub draw_of : (tag tsn : ℕ) → Draw
draw_of tag tsn = record { tag = tag; tsn = tsn }

-- What a command with these values says; `open` has tag 1 for A and tag 2 for B, and initial TSN 1 for both.
abbrev pub meaning_of : (c : Command) → CommandValues c → LineMeaning
meaning_of command.Pair (limit, (fragment, (buffer, (streams, (mode, rest))))) = Pairs (asked mode (sizes limit fragment buffer streams))
meaning_of command.DelayedPair (limit, (fragment, (buffer, (streams, (mode, rest))))) = Pairs (record (asked mode (sizes limit fragment buffer streams)) { delay = true })
meaning_of command.Open rest = Acts (Happens (OpenBoth (draw_of 1 1) (draw_of 2 1)))
meaning_of command.At (moment, rest) = Acts (Happens (At moment))
meaning_of command.Draw (tag, (tsn, rest)) = Acts (Happens (Drawing (draw_of tag tsn)))
meaning_of command.Connect (tag, (tsn, rest)) = Acts (Happens (Connect (draw_of tag tsn)))
meaning_of command.Build (x, rest) = Acts (Happens (Build x))
meaning_of command.Deliver (x, (number, rest)) = Acts (Happens (Deliver x number))
meaning_of command.Foreign (x, (bytes, rest)) = Acts (BringsBytes x bytes)
meaning_of command.Send (x, (stream, (kind, (payload, (until, (bytes, rest)))))) =
    Acts (Happens (Send x (record { lane = record { stream = stream; kind = kind }; payload = payload; bytes = bytes; until = until; limit = None })))
meaning_of command.Abandon (x, (ticket, rest)) = Acts (Happens (Abandon x ticket))
meaning_of command.Take (x, (stream, rest)) = Acts (Happens (Take x stream))
meaning_of command.Shutdown (x, rest) = Acts (Happens (Shutdown x))
meaning_of command.Abort (x, (reason, rest)) = Acts (Happens (Abort x reason))

-- the values say something together: those of `pair` are a configuration without a fault
abbrev pub AreGood : (c : Command) → CommandValues c → Type 0
AreGood command.Pair (limit, (fragment, (buffer, (streams, (mode, rest))))) = configuration_fault (sizes limit fragment buffer streams) ≡ None
AreGood command.DelayedPair (limit, (fragment, (buffer, (streams, (mode, rest))))) = configuration_fault (sizes limit fragment buffer streams) ≡ None
AreGood _ vs = Unit {0}

-- What a command with these words says.
abbrev pub Spells : Command → List (List ℕ) → LineMeaning → Type 0
Spells c args m = (vs : CommandValues c) × AreValues Value IsValue (fields_of c) args vs × AreGood c vs × (m ≡ meaning_of c vs)

-- ---- lines

-- the line is this command with these words
abbrev pub IsLineOf : List ℕ → Command → List (List ℕ) → Type 0
IsLineOf line c args = words_of line ≡ name_of c ∷ args

-- What is wrong with a line, fault by fault; `paired` says whether there was a `pair` line before it.
abbrev pub HasFault : Bool → List ℕ → LineFault → Type 0
HasFault paired line TooLong = LONGEST_LINE < length line
HasFault paired line UnknownCommand = (IsSilent line → ⊥) × ((c : Command) (args : List (List ℕ)) → IsLineOf line c args → ⊥)
HasFault paired line WordCount =
    (c : Command) × (args : List (List ℕ)) × IsLineOf line c args × ((d : Command) → name_of d ≡ name_of c → length args ≢ arguments_of d)
HasFault paired line BadValue =
    (c : Command) × (args : List (List ℕ)) × IsLineOf line c args × (length args ≡ arguments_of c)
    × ((m : LineMeaning) → Spells c args m → ⊥)
HasFault paired line PairOrder = (c : Command) × (args : List (List ℕ)) × IsLineOf line c args × (is_pair c ≡ paired)

-- of several faults the one with the smallest kind counts
abbrev pub IsFirstFaultOf : Bool → List ℕ → LineFault → Type 0
IsFirstFaultOf paired line fault =
    HasFault paired line fault × ((other : LineFault) → kind_of other < kind_of fault → HasFault paired line other → ⊥)

-- nothing is wrong with the line
abbrev pub HasNoFault : Bool → List ℕ → Type 0
HasNoFault paired line = (fault : LineFault) → HasFault paired line fault → ⊥

-- the words of the line say so
abbrev pub Means : List ℕ → LineMeaning → Type 0
Means line m = (c : Command) × (args : List (List ℕ)) × IsLineOf line c args × Spells c args m

-- What a line says.
abbrev pub Says : Bool → List ℕ → LineMeaning → Type 0
Says paired line Silent = HasNoFault paired line × IsSilent line
Says paired line (Pairs c) = HasNoFault paired line × Means line (Pairs c)
Says paired line (Acts w) = HasNoFault paired line × Means line (Acts w)
Says paired line (Fault fault) = IsFirstFaultOf paired line fault

-- a law: a line says one thing, and nothing else
pub record SaysOneThing (paired : Bool) (line : List ℕ) : Type 0 where
  pub meaning : LineMeaning
  pub says : Says paired line meaning
  pub only : (m : LineMeaning) → Says paired line m → m ≡ meaning
