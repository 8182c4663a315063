-- What a reader of lines answers.
use Rattle.std.specs.Prelude.{◌≡◌, ℕ, ◌+◌, ◌<◌, ◌≤◌, List, [], ◌∷◌, ◌++◌, length, Result, Ok, Err}
use Rattle.sctp_text.specs.declared.limits.TheConstants.{LONGEST_LINE, LONGEST_TEXT}
use Rattle.sctp_text.specs.declared.line_reader.NextLine.{NextLine}
use Rattle.sctp_text.specs.declared.line_reader.NextLine.TheVariants.{Ended, Last, TooLong, End}
use Rattle.sctp_text.specs.declared.line_reader.ReadFault.{ReadFault}
use Rattle.sctp_text.specs.declared.line_reader.ReadFault.TheVariants.{Failed, NoMemory}
use Rattle.sctp_text.specs.TextLines.{Reading, IsOneLine, ended, IsTooLong, HasGiven, ended_lines_of, lines_of}

-- the bytes that an answer gives: a line, with the line feed that ended it
abbrev pub given_by : Result NextLine ReadFault → List ℕ
given_by (Ok (Ended line)) = ended line.items
given_by (Ok (Last line)) = line.items
given_by (Ok TooLong) = []
given_by (Ok End) = []
given_by (Err _) = []

-- what an answer says of the line that it gives, or of what is held then and of how much was given
abbrev pub IsAnswer : Result NextLine ReadFault → Reading → Type 0
IsAnswer (Ok (Ended line)) now = IsOneLine line.items × (length line.items ≤ LONGEST_LINE) × (now.given ≤ LONGEST_TEXT)
IsAnswer (Ok (Last line)) now =
    IsOneLine line.items × (0 < length line.items) × (length line.items ≤ LONGEST_LINE) × (now.given ≤ LONGEST_TEXT) × (now.held ≡ [])
IsAnswer (Ok TooLong) now = IsTooLong now.given now.held
IsAnswer (Ok End) now = now.held ≡ []
IsAnswer (Err _) now = Unit {0}

-- P, if the answer is given at the end of the input
abbrev pub AtTheEnd : Result NextLine ReadFault → Type 0 → Type 0
AtTheEnd (Ok (Ended line)) P = Unit {0}
AtTheEnd (Ok (Last line)) P = P
AtTheEnd (Ok TooLong) P = Unit {0}
AtTheEnd (Ok End) P = P
AtTheEnd (Err _) P = Unit {0}

-- the number of failed calls of the source that an answer reports
abbrev pub failed_reads : {X : Type 0} → Result X ReadFault → ℕ
failed_reads (Ok _) = 0
failed_reads (Err Failed) = 1
failed_reads (Err NoMemory) = 0

-- if this text was read and these lines of it were given before the answer: the lines given with it, or that these are all
abbrev pub GivesOn : List ℕ → List (List ℕ) → Result NextLine ReadFault → Reading → Type 0
GivesOn text lines (Ok (Ended line)) now = HasGiven text (lines ++ line.items ∷ []) now
GivesOn text lines (Ok (Last line)) now = (ended_lines_of text ≡ lines) × (lines_of text ≡ lines ++ line.items ∷ [])
GivesOn text lines (Ok TooLong) now = HasGiven text lines now
GivesOn text lines (Ok End) now = (ended_lines_of text ≡ lines) × (lines_of text ≡ lines)
GivesOn text lines (Err _) now = HasGiven text lines now

-- what a step of a reader of lines says of the whole text: the reader's clauses lead from line to line
abbrev pub LeadsOn : List ℕ → List (List ℕ) → Reading → List ℕ → Result NextLine ReadFault → Reading → Type 0
LeadsOn text lines now bytes answer after =
    HasGiven text lines now → now.held ++ bytes ≡ given_by answer ++ after.held
    → after.given ≡ now.given + length (given_by answer) → IsAnswer answer after → GivesOn (text ++ bytes) lines answer after
