-- A line that is skipped: the bytes discarded, and those held afterwards.
use Rattle.std.specs.Prelude.{◌≡◌, ℕ, ◌+◌, ◌<◌, ◌≤◌, ◌==◌, if◌then◌else◌, List, [], ◌∷◌, ◌++◌, length, Result, Ok, Err}
use Rattle.sctp_text.specs.TextLines.{Reading, HasGiven, IsOneLine, IsTooLong, ended, first_end, lines_of}
use Rattle.sctp_text.specs.declared.limits.TheConstants.{LONGEST_LINE, LONGEST_TEXT}
use Rattle.sctp_text.specs.declared.line_reader.SkippedLine.{SkippedLine}
use Rattle.sctp_text.specs.declared.line_reader.SkippedLine.TheVariants.{Ended, Last, TextTooLong}
use Rattle.sctp_text.specs.declared.source_sink.Failed.{Failed}

-- the bytes discarded: those of the line, with the line feed that ended it
abbrev pub skipped_by : Result SkippedLine Failed → List ℕ → List ℕ
skipped_by (Ok Ended) line = ended line
skipped_by (Ok Last) line = line
skipped_by (Ok TextTooLong) line = line
skipped_by (Err _) line = line

-- what is left after the line, or of it
abbrev pub IsLeft : Result SkippedLine Failed → Reading → Type 0
IsLeft (Ok Ended) after = Unit {0}
IsLeft (Ok Last) after = after.held ≡ []
IsLeft (Ok TextTooLong) after = LONGEST_TEXT < after.given + first_end after.held
IsLeft (Err _) after = Unit {0}

-- P, if the answer is given at the end of the input
abbrev pub EndsInput : Result SkippedLine Failed → Type 0 → Type 0
EndsInput (Ok Ended) P = Unit {0}
EndsInput (Ok Last) P = P
EndsInput (Ok TextTooLong) P = Unit {0}
EndsInput (Err _) P = Unit {0}

-- These bytes were read, and the line at the front of what was held and of them was discarded, as far as it was there. What is discarded counts as
-- given.
pub record Skips (now : Reading) (bytes : List ℕ) (answer : Result SkippedLine Failed) (after : Reading) : Type 0 where
  pub line : List ℕ
  pub one_line : IsOneLine line
  pub whole : now.held ++ bytes ≡ skipped_by answer line ++ after.held
  pub count : after.given ≡ now.given + length (skipped_by answer line)
  pub within : after.given ≤ LONGEST_TEXT
  pub left : IsLeft answer after

-- ---- laws

-- if a line was skipped to its end and was reported as too long, it has more bytes than a line may have
abbrev pub IsLong : Result SkippedLine Failed → List ℕ → Type 0
IsLong (Ok Ended) line = LONGEST_LINE < length line
IsLong (Ok Last) line = LONGEST_LINE < length line
IsLong (Ok TextTooLong) line = Unit {0}
IsLong (Err _) line = Unit {0}

-- if this text was read and these lines of it were given, the line that was skipped is the next of them, or the last one
abbrev pub CountsOn : List ℕ → List (List ℕ) → Result SkippedLine Failed → List ℕ → Reading → Type 0
CountsOn text lines (Ok Ended) line after = HasGiven text (lines ++ line ∷ []) after
CountsOn text lines (Ok Last) line after = lines_of text ≡ lines ++ (if length line == 0 then [] else line ∷ [])
CountsOn text lines (Ok TextTooLong) line after = Unit {0}
CountsOn text lines (Err _) line after = Unit {0}

-- a line that is skipped is counted among the lines of the whole text as if it were given, and is as long as it was said to be
pub record IsSkipped (text : List ℕ) (lines : List (List ℕ)) (now : Reading) (bytes : List ℕ) (answer : Result SkippedLine Failed) (after : Reading) : Type 0 where
  pub counts : (skips : Skips now bytes answer after) → HasGiven text lines now → CountsOn (text ++ bytes) lines answer skips.line after
  pub long : (skips : Skips now bytes answer after) → IsTooLong now.given now.held → IsLong answer skips.line
