-- How far a script has been run, and what one line, its outcome and the report leave.
use Rattle.std.specs.Prelude.{◌≡◌, ℕ, suc, ◌≤◌, ◌⊎◌, Bool, true, false, List, [], ◌++◌, length, Option, Some, None, Result, Ok, Err}
use Rattle.sctp_model.specs.world.World.{World}
use Rattle.sctp_words.specs.declared.line_fault.LineFault.TheVariants.{PairOrder}
use Rattle.sctp_text.specs.declared.line_reader.ReadFault.{ReadFault}
use Rattle.sctp_text.specs.declared.line_reader.ReadFault.TheVariants as read
use Rattle.sctp_script.specs.Grammar.{Fault}
use Rattle.std.specs.Option.{is_some}
use Rattle.sctp_script.specs.PlacedAnswer.{place_at}
use Rattle.sctp_script.specs.Places.{Plain, SaysAt}
use Rattle.sctp_text.specs.TextLines.{HasGiven, lines_of}
use Rattle.sctp_script.specs.ReportText.{report}
use Rattle.sctp_model.specs.end.Sealing.{Sealing}
use Rattle.sctp_cookie.specs.Seals.{IsUnder}
use Rattle.sctp_events.specs.declared.two_configs.TwoConfigs.{TwoConfigs}
use Rattle.sctp_script.specs.declared.placed.Preamble.{Preamble}
use Rattle.sctp_pair.specs.declared.pair.Pair.{Pair}
use Rattle.sctp_trace.specs.declared.script.Running.{Running}
use Rattle.sctp_trace.specs.declared.script.ScriptFault.{ScriptFault}
use Rattle.sctp_trace.specs.declared.script.ScriptFault.TheVariants.{Read, Write, NoMemory, Line}
use Rattle.sctp_pair.specs.PairStands.{PairStands}
use Rattle.sctp_trace.specs.Stages.{LISTENER_KEY, Stage, Unpaired, SetUp, place_of, world_of}
use Rattle.sctp_trace.specs.Script.{LineActs, Goes, IsFront, IsOutput, BeginsOutput, FaultsFirst}
use Rattle.sctp_text.specs.declared.limits.TheConstants.{LONGEST_TEXT}

-- the pair, if there is one, stands for the world, if there is one
abbrev pub StandsAt : Option Pair → Option World → Type 0
StandsAt None None = Unit {0}
StandsAt None (Some w) = ⊥
StandsAt (Some pair) None = ⊥
StandsAt (Some pair) (Some w) = PairStands pair w

-- the pair stands for the world of a stage, and the next line has its place
abbrev pub Stand : Option Pair → Preamble → Stage → Type 0
Stand pair preamble stage = StandsAt pair (world_of stage) × (place_at (is_some pair) preamble ≡ place_of stage)

-- two endpoints were set up with these configurations, by a line of options or not, unless an allocation failed
abbrev pub IsSetUp : Result (Unit {0}) ScriptFault → TwoConfigs → (with_options : Bool) → Option Pair → Preamble → Type 0
IsSetUp (Ok _) configs with_options pair preamble = (s : Sealing) × IsUnder LISTENER_KEY s × Stand pair preamble (SetUp with_options configs.a configs.b s)
IsSetUp (Err Read) configs with_options pair preamble = ⊥
IsSetUp (Err Write) configs with_options pair preamble = ⊥
IsSetUp (Err NoMemory) configs with_options pair preamble = Unit {0}
IsSetUp (Err (Line n fault)) configs with_options pair preamble = ⊥

-- why no line could be read
abbrev pub fault_of : ReadFault → ScriptFault
fault_of read.Failed = Read
fault_of read.NoMemory = NoMemory

-- what is written of some bytes: all of them, or a part if the writer failed
abbrev pub IsWrittenOf : Result (Unit {0}) ScriptFault → List ℕ → List ℕ → Type 0
IsWrittenOf (Ok _) whole written = written ≡ whole
IsWrittenOf (Err Read) whole written = ⊥
IsWrittenOf (Err Write) whole written = (more : List ℕ) × (whole ≡ written ++ more)
IsWrittenOf (Err NoMemory) whole written = ⊥
IsWrittenOf (Err (Line n fault)) whole written = ⊥

-- what is gathered of some bytes: all of them, or nothing if an allocation failed
abbrev pub IsGatheredOf : Result (Unit {0}) ScriptFault → List ℕ → List ℕ → Type 0
IsGatheredOf (Ok _) whole here = here ≡ whole
IsGatheredOf (Err Read) whole here = ⊥
IsGatheredOf (Err Write) whole here = ⊥
IsGatheredOf (Err NoMemory) whole here = here ≡ []
IsGatheredOf (Err (Line n fault)) whole here = ⊥

-- what of the bytes that were gathered is written, and what stays gathered; if the writer failed nothing stays
abbrev pub IsPassedOn : Result (Unit {0}) ScriptFault → List ℕ → List ℕ → List ℕ → Type 0
IsPassedOn (Ok _) gathered written rest = gathered ≡ written ++ rest
IsPassedOn (Err Read) gathered written rest = ⊥
IsPassedOn (Err Write) gathered written rest = ((more : List ℕ) × (gathered ≡ written ++ more)) × (rest ≡ [])
IsPassedOn (Err NoMemory) gathered written rest = ⊥
IsPassedOn (Err (Line n fault)) gathered written rest = ⊥

-- what the line with this number leaves
abbrev pub LineLeaves : Result (Unit {0}) ScriptFault → ℕ → Stage → List ℕ → List ℕ → Option Pair → Preamble → Type 0
LineLeaves (Ok _) n stage line here pair preamble = (after : Stage) × LineActs stage line here after × Stand pair preamble after
LineLeaves (Err Read) n stage line here pair preamble = ⊥
LineLeaves (Err Write) n stage line here pair preamble = ⊥
LineLeaves (Err NoMemory) n stage line here pair preamble = here ≡ []
LineLeaves (Err (Line m fault)) n stage line here pair preamble = (m ≡ n) × (here ≡ []) × SaysAt (place_of stage) line (Plain (Fault fault))

-- what is gathered at the end of a script
abbrev pub Closes : Result (Unit {0}) ScriptFault → Option World → List ℕ → Type 0
Closes (Err (Line n fault)) state here = (state ≡ None) × (n ≡ 1) × (fault ≡ PairOrder) × (here ≡ [])
Closes (Ok a) state here = (w : World) × (state ≡ Some w) × (here ≡ report w)
Closes (Err Read) state here = ⊥
Closes (Err Write) state here = ⊥
Closes (Err NoMemory) state here = (w : World) × (state ≡ Some w) × (here ≡ [])

-- how a script ends that ended so and whose gathered bytes are written, if no call failed before
abbrev pub IsClosed : Result (Unit {0}) ScriptFault → Result (Unit {0}) ScriptFault → List ℕ → List ℕ → Type 0
IsClosed ended result gathered written =
    ((result ≡ ended) × (written ≡ gathered))
    ⊎ (((result ≡ Err Write) ⊎ ((result ≡ ended) × (ended ≡ Err Read))) × ((more : List ℕ) × (gathered ≡ written ++ more)))

-- Of a text that was read these lines were given and acted, and wrote this.
pub record IsSoFar (s : Running) (text done : List ℕ) (lines : List (List ℕ)) (stage : Stage) : Type 0 where
  pub given : HasGiven text lines s.lines
  pub goes : Goes Unpaired lines done stage
  pub stands : Stand s.pair s.preamble stage
  pub number : s.number ≡ suc (length lines)

-- All lines of a text that was read acted, and wrote this.
pub record IsOver (s : Running) (text done : List ℕ) (stage : Stage) : Type 0 where
  pub small : length text ≤ LONGEST_TEXT
  pub goes : Goes Unpaired (lines_of text) done stage
  pub stands : StandsAt s.pair (world_of stage)

-- a beginning of what first lines write
abbrev pub BeginsFront : List ℕ → List ℕ → Type 0
BeginsFront text written =
    (front : List (List ℕ)) × (rest outcomes more : List ℕ) × (stage : Stage) × IsFront text front rest outcomes stage
    × (outcomes ≡ written ++ more)

-- what an answer says of the bytes so far, whatever lines follow those that acted; `end` says that all input was read
abbrev pub EndsAs : Type 0 → Result (Unit {0}) ScriptFault → List ℕ → List ℕ → Type 0
EndsAs end (Ok _) read written = end × IsOutput read written
EndsAs end (Err Read) read written = BeginsFront read written
EndsAs end (Err Write) read written = BeginsFront read written ⊎ (end × BeginsOutput read written)
EndsAs end (Err NoMemory) read written = BeginsFront read written ⊎ (end × BeginsOutput read written)
EndsAs end (Err (Line n fault)) read written = FaultsFirst end read n fault written

-- what reading and running one line leaves; true says that the input may go on
abbrev pub RunsOn : Type 0 → Result Bool ScriptFault → Running → List ℕ → List ℕ → Type 0
RunsOn end (Ok true) s text done = (lines : List (List ℕ)) × (stage : Stage) × IsSoFar s text done lines stage
RunsOn end (Ok false) s text done = end × ((stage : Stage) × IsOver s text done stage)
RunsOn end (Err fault) s text done = EndsAs end (Err fault) text done
