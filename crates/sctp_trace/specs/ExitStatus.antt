-- How the program ends by its words: the exit status, and what was read, written and reported.
use Rattle.std.specs.Prelude.{◌≡◌, ℕ, ◌⊎◌, Bool, if◌then◌else◌, List, [], ◌++◌, Result, Ok, Err, Option, Some, None, codes, decimal}
use Rattle.clap.specs.Faults.{fault_of}
use Rattle.clap.specs.Kinds.{IsAmong}
use Rattle.clap.specs.Values.{kind_text}
use Rattle.clap.specs.declared.error.kind.ErrorKind.{ErrorKind}
use Rattle.sctp_words.specs.Lines.{kind_of}
use Rattle.sctp_words.specs.declared.line_fault.LineFault.{LineFault}
use Rattle.sctp_print.specs.PrintedText.{IsPacketTextOf, IsChunksTextOf}
use Rattle.sctp_trace.specs.Forms.{commands, IsForm, Form, Run, Packet, Chunks, form_of}
use Rattle.sctp_trace.specs.Script.{IsAnswered}
use Rattle.sctp_trace.specs.declared.command_line.TheConstants.{DONE, WRONG_WORDS, REFUSED, FAILED, USAGE}
use Rattle.sctp_trace.specs.declared.script.ScriptFault.{ScriptFault}
use Rattle.sctp_trace.specs.declared.script.ScriptFault.TheVariants.{Read, Write, NoMemory, Line}

-- what is said of the first line with a fault
abbrev pub refused_line : ℕ → LineFault → List ℕ
refused_line number fault = codes "line " ++ decimal number ++ codes ": " ++ decimal (kind_of fault) ++ codes "\n"

-- what was said is a beginning of a text
abbrev pub Begins : List ℕ → List ℕ → Type 0
Begins said text = (more : List ℕ) × (text ≡ said ++ more)

-- The exit status of a script that ended so, and what was said. A refused line is said whole, or the status is that of a failure.
abbrev pub Tells : Result (Unit {0}) ScriptFault → ℕ → List ℕ → Type 0
Tells (Ok _) status said = (status ≡ DONE) × (said ≡ [])
Tells (Err Read) status said = (status ≡ FAILED) × (said ≡ [])
Tells (Err Write) status said = (status ≡ FAILED) × (said ≡ [])
Tells (Err NoMemory) status said = (status ≡ FAILED) × (said ≡ [])
Tells (Err (Line n fault)) status said =
    ((status ≡ REFUSED) × (said ≡ refused_line n fault)) ⊎ ((status ≡ FAILED) × Begins said (refused_line n fault))

-- a script was run: how it ended, and what was reported; `end` says that all input was read
abbrev pub Runs : Type 0 → ℕ → List ℕ → List ℕ → List ℕ → Type 0
Runs end status read written said =
    (ended : Result (Unit {0}) ScriptFault) × IsAnswered end ended read written × Tells ended status said

-- the status of bytes that were read, or not
abbrev pub status_of : Bool → ℕ
status_of was_read = if was_read then DONE else REFUSED

-- The text was printed, and the status says whether the bytes were read; or only a beginning of it was written.
abbrev pub Prints : (List ℕ → Bool → Type 0) → ℕ → List ℕ → Type 0
Prints IsText status written =
    ((text : List ℕ) × (was_read : Bool) × IsText text was_read
    × (((status ≡ status_of was_read) × (written ≡ text)) ⊎ ((status ≡ FAILED) × Begins written text)))
    ⊎ ((status ≡ FAILED) × (written ≡ []))

-- What a form asks for was done: a script was run; or the lines of the packet, or of the chunks, that its word says were printed, and
-- nothing was read or said.
abbrev pub Acts : Type 0 → Form → ℕ → List ℕ → List ℕ → List ℕ → Type 0
Acts end Run status read written said = Runs end status read written said
Acts end (Packet hex) status read written said = (read ≡ []) × (said ≡ []) × Prints (IsPacketTextOf hex) status written
Acts end (Chunks hex) status read written said = (read ≡ []) × (said ≡ []) × Prints (IsChunksTextOf hex) status written

-- what is wrong with words, in clap's words for its kind; a request for help is none
abbrev pub reason_line : Option (List ℕ) → List ℕ
reason_line None = []
reason_line (Some reason) = codes "sctp-trace: " ++ reason ++ codes "\n"

-- what is said of words that are no form, by what is wrong with them
abbrev pub words_text : ErrorKind → List ℕ
words_text kind = reason_line (kind_text kind) ++ USAGE.now

-- The exit status of words that are no form, and what was said: all of it, or the status is that of a failure.
abbrev pub Says : ErrorKind → ℕ → List ℕ → Type 0
Says kind status said = ((status ≡ WRONG_WORDS) × (said ≡ words_text kind)) ⊎ ((status ≡ FAILED) × Begins said (words_text kind))

-- Of words that are a form what it asks was done. Of others nothing was read or written, and a kind of fault that clap finds in them was
-- said, with the forms. Where memory failed before that, nothing was done.
abbrev pub Ends : Type 0 → List (List ℕ) → ℕ → List ℕ → List ℕ → List ℕ → Type 0
Ends end words status read written said =
    (IsForm words × Acts end (form_of words) status read written said)
    ⊎ (((read ≡ []) × (written ≡ []) × ((kind : ErrorKind) × IsAmong kind (fault_of commands words) × Says kind status said))
    ⊎ ((status ≡ FAILED) × (read ≡ []) × (written ≡ []) × (said ≡ [])))
