-- What a script writes, and which of its lines has the first fault: over its bytes, the grammar of its lines and the steps of two endpoints.
-- A failed allocation is no answer of a step here.
use Rattle.std.specs.Prelude.{◌≡◌, ℕ, suc, ◌<◌, ◌≤◌, ◌⊎◌, true, false, List, [], ◌∷◌, ◌++◌, length, Some, Result, Ok, Err}
use Rattle.std.specs.List.{All}
use Rattle.sctp_model.specs.end.Sealing.{Sealing}
use Rattle.sctp_model.specs.world.World.{World}
use Rattle.sctp_model.specs.world.Events.{Event, Outcome}
use Rattle.sctp_model.specs.world.Steps.{Step}
use Rattle.sctp_cookie.specs.Seals.{IsUnder}
use Rattle.sctp_events.specs.Alike.{turned_round}
use Rattle.sctp_pair.specs.Happens.{IsMeant}
use Rattle.sctp_words.specs.declared.line_fault.LineFault.{LineFault}
use Rattle.sctp_words.specs.declared.line_fault.LineFault.TheVariants.{TooLong, PairOrder}
use Rattle.sctp_script.specs.Grammar.{Silent, Pairs, Acts, Fault}
use Rattle.sctp_script.specs.Places.{Place, PlacedMeaning, Plain, Configures, has_options, SaysAt}
use Rattle.sctp_text.specs.TextLines.{IsOneLine, IsTooLong, ended, joined, lines_of, ended_lines_of}
use Rattle.sctp_script.specs.OutcomeText.{outcome_line}
use Rattle.sctp_script.specs.ReportText.{report}
use Rattle.sctp_trace.specs.Stages.{LISTENER_KEY, Stage, Unpaired, SetUp, Reached, place_of, world_of}
use Rattle.sctp_trace.specs.declared.script.ScriptFault.{ScriptFault}
use Rattle.sctp_trace.specs.declared.script.ScriptFault.TheVariants.{Read, Write, NoMemory, Line}
use Rattle.sctp_text.specs.declared.limits.TheConstants.{LONGEST_TEXT}

-- ---- lines that act

-- what is written for what a line says, and the stage that it leads to
abbrev pub Does : Stage → PlacedMeaning → List ℕ → Stage → Type 0
Does stage (Plain Silent) written after = (written ≡ []) × (after ≡ stage)
Does stage (Plain (Pairs c)) written after = (s : Sealing) × IsUnder LISTENER_KEY s × (written ≡ []) × (after ≡ SetUp false c (turned_round c) s)
Does stage (Configures a b) written after = (s : Sealing) × IsUnder LISTENER_KEY s × (written ≡ []) × (after ≡ SetUp true a b s)
Does stage (Plain (Acts wanted)) written after =
    (w x : World) × (e : Event) × (o : Outcome) × IsMeant wanted e × (world_of stage ≡ Some w) × Step w e (Some o) x
    × (written ≡ outcome_line wanted o) × (after ≡ Reached (has_options (place_of stage)) x)
Does stage (Plain (Fault fault)) written after = ⊥

-- a line without a fault writes this and leads to this stage
abbrev pub LineActs : Stage → List ℕ → List ℕ → Stage → Type 0
LineActs stage line written after = (m : PlacedMeaning) × SaysAt (place_of stage) line m × Does stage m written after

-- lines without a fault, one after another
abbrev pub Goes : Stage → List (List ℕ) → List ℕ → Stage → Type 0
Goes stage [] written after = (written ≡ []) × (after ≡ stage)
Goes stage (line ∷ lines) written after =
    (here behind : List ℕ) × (mid : Stage) × LineActs stage line here mid × Goes mid lines behind after × (written ≡ here ++ behind)

-- ---- OUTPUT

-- the outcome lines of all lines of a script, and then the report
pub record IsOutput (text written : List ℕ) : Type 0 where
  pub small : length text ≤ LONGEST_TEXT
  pub outcomes : List ℕ
  pub stage : Stage
  pub goes : Goes Unpaired (lines_of text) outcomes stage
  pub world : World
  pub there : world_of stage ≡ Some world
  pub whole : written ≡ outcomes ++ report world

-- ---- the first fault

-- A text begins with this line: a line feed ends it, or the input ends with it. `end` says that all input was read.
abbrev pub BeginsWith : Type 0 → List ℕ → List ℕ → Type 0
BeginsWith end text line = IsOneLine line × (((tail : List ℕ) × (text ≡ ended line ++ tail)) ⊎ (end × (0 < length line) × (text ≡ line)))

-- Behind so many bytes the first line of a text has this fault at its place. One that is too long may go on.
abbrev pub HasFirstFault : Type 0 → Place → ℕ → List ℕ → LineFault → Type 0
HasFirstFault end place given text fault =
    ((fault ≡ TooLong) × IsTooLong given text)
    ⊎ ((IsTooLong given text → ⊥) × ((line : List ℕ) × BeginsWith end text line × SaysAt place line (Plain (Fault fault))))

-- First lines of a text, each with its line feed, have no fault, write this and lead to this stage; the rest follows them.
pub record IsFront (text : List ℕ) (front : List (List ℕ)) (rest written : List ℕ) (stage : Stage) : Type 0 where
  pub each : All IsOneLine front
  pub whole : text ≡ joined front ++ rest
  pub small : length (joined front) ≤ LONGEST_TEXT
  pub goes : Goes Unpaired front written stage

-- the line after first lines has this fault; lines count from 1
pub record IsFaulty (end : Type 0) (text : List ℕ) (n : ℕ) (fault : LineFault) (written : List ℕ) : Type 0 where
  pub front : List (List ℕ)
  pub rest : List ℕ
  pub stage : Stage
  pub before : IsFront text front rest written stage
  pub number : n ≡ suc (length front)
  pub has : HasFirstFault end (place_of stage) (length (joined front)) rest fault

-- no line of a script acts or has a fault
pub record HasNoPair (text : List ℕ) : Type 0 where
  pub small : length text ≤ LONGEST_TEXT
  pub goes : Goes Unpaired (lines_of text) [] Unpaired

-- Line n is the first one with a fault, and what the lines before it wrote. Where no line acts or has a fault, line 1 has one.
abbrev pub FaultsFirst : Type 0 → List ℕ → ℕ → LineFault → List ℕ → Type 0
FaultsFirst end text n fault written =
    IsFaulty end text n fault written ⊎ (end × HasNoPair text × (n ≡ 1) × (fault ≡ PairOrder) × (written ≡ []))

-- ---- LINES

-- no more line is there to its end, or the next one has a fault
abbrev pub Stops : Stage → ℕ → List ℕ → Type 0
Stops stage given rest = (ended_lines_of rest ≡ []) ⊎ ((fault : LineFault) × HasFirstFault ⊥ (place_of stage) given rest fault)

-- LINES: what is written for the lines of a text that a line feed ends, up to the first one with a fault
abbrev pub IsLines : List ℕ → List ℕ → Type 0
IsLines text written =
    (front : List (List ℕ)) × (rest : List ℕ) × (stage : Stage) × IsFront text front rest written stage
    × Stops stage (length (joined front)) rest

-- a beginning of LINES
abbrev pub BeginsLines : List ℕ → List ℕ → Type 0
BeginsLines text written = (lines more : List ℕ) × IsLines text lines × (lines ≡ written ++ more)

-- a beginning of OUTPUT
abbrev pub BeginsOutput : List ℕ → List ℕ → Type 0
BeginsOutput text written = (output more : List ℕ) × IsOutput text output × (output ≡ written ++ more)

-- ---- answers

-- what an answer says of the bytes that were read and written; `end` says that all input was read
abbrev pub IsAnswered : Type 0 → Result (Unit {0}) ScriptFault → List ℕ → List ℕ → Type 0
IsAnswered end (Ok _) read written = end × IsOutput read written
IsAnswered end (Err Read) read written = BeginsLines read written
IsAnswered end (Err Write) read written = BeginsLines read written ⊎ (end × BeginsOutput read written)
IsAnswered end (Err NoMemory) read written = BeginsLines read written ⊎ (end × BeginsOutput read written)
IsAnswered end (Err (Line n fault)) read written = FaultsFirst end read n fault written

-- the number of failed calls of the reader that an answer reports
abbrev pub failed_reads : {X : Type 0} → Result X ScriptFault → ℕ
failed_reads (Ok _) = 0
failed_reads (Err Read) = 1
failed_reads (Err Write) = 0
failed_reads (Err NoMemory) = 0
failed_reads (Err (Line n fault)) = 0

-- the number of failed calls of the writer that an answer reports
abbrev pub failed_writes : {X : Type 0} → Result X ScriptFault → ℕ
failed_writes (Ok _) = 0
failed_writes (Err Read) = 0
failed_writes (Err Write) = 1
failed_writes (Err NoMemory) = 0
failed_writes (Err (Line n fault)) = 0
