-- How far the lines of the input are answered, and what one line leaves.
use Rattle.std.specs.Prelude.{◌≡◌, ℕ, Bool, true, false, List, Result, Ok, Err}
use Rattle.sctp_model.specs.end.EndView.{EndView}
use Rattle.sctp_endpoint.specs.EndpointStands.{EndpointStands}
use Rattle.sctp_end.specs.declared.run.RunFault.{RunFault}
use Rattle.sctp_end.specs.declared.run.RunFault.TheVariants.{Read, Write, NoMemory, TextTooLong}
use Rattle.sctp_end.specs.declared.session.Session.{Session}
use Rattle.sctp_end.specs.Answering.{AnswersLine, Answers, IsAnswered, Begins, IsBegun}
use Rattle.sctp_end.specs.Performing.{Standing}
use Rattle.sctp_end.specs.SessionStands.{standing}
use Rattle.sctp_text.specs.TextLines.{Reading, HasGiven}

-- ---- failed calls

-- the number of failed calls of the reader that an answer reports
abbrev pub failed_reads : {X : Type 0} → Result X RunFault → ℕ
failed_reads (Ok _) = 0
failed_reads (Err Read) = 1
failed_reads (Err Write) = 0
failed_reads (Err NoMemory) = 0
failed_reads (Err TextTooLong) = 0

-- how many failed calls of the writer
abbrev pub failed_writes : {X : Type 0} → Result X RunFault → ℕ
failed_writes (Ok _) = 0
failed_writes (Err Read) = 0
failed_writes (Err Write) = 1
failed_writes (Err NoMemory) = 0
failed_writes (Err TextTooLong) = 0

-- ---- one line

-- these bytes are written, or a beginning of them
abbrev pub IsWritten : Result (Unit {0}) RunFault → (whole written : List ℕ) → Type 0
IsWritten (Ok _) whole written = written ≡ whole
IsWritten (Err _) whole written = Begins written whole

-- the line was answered, and the session stands for what it left; or a prefix of an answer is written
abbrev pub LineLeaves : Result (Unit {0}) RunFault → Standing → (line written : List ℕ) → Session → Type 0
LineLeaves (Ok _) s line written new = (w : EndView) × AnswersLine s line written (standing new w) × EndpointStands new.endpoint w
LineLeaves (Err _) s line written new = (whole : List ℕ) × (after : Standing) × AnswersLine s line whole after × Begins written whole

-- ---- line after line

-- Of a text that was read these lines were given and answered, and this is written.
pub record IsSoFar (first : Standing) (now : Session) (reader : Reading) (text written : List ℕ) (lines : List (List ℕ)) : Type 0 where
  pub given : HasGiven text lines reader
  pub view : EndView
  pub answers : Answers first lines written (standing now view)
  pub stands : EndpointStands now.endpoint view

-- how it is when no more lines are answered; `end` says that all input was read
abbrev pub EndsAs : {X : Type 0} → Type 0 → Standing → Result X RunFault → (text written : List ℕ) → Type 0
EndsAs end first (Ok _) text written = end × IsAnswered first text written
EndsAs end first (Err _) text written = IsBegun first text written

-- what reading and answering one more line leaves; true says that the input may go on
abbrev pub RunsOn : Type 0 → Standing → Result Bool RunFault → Session → Reading → (text written : List ℕ) → Type 0
RunsOn end first (Ok true) now reader text written = (lines : List (List ℕ)) × IsSoFar first now reader text written lines
RunsOn end first (Ok false) now reader text written = end × IsAnswered first text written
RunsOn end first (Err fault) now reader text written = IsBegun first text written
