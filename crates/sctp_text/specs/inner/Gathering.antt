-- What private functions of the reader of lines answer.
use Rattle.std.specs.Prelude.{◌≡◌, ℕ, ◌+◌, ◌<◌, List, [], ◌∷◌, ◌++◌, length, Option, None, Some, Result, Ok, Err}
use Rattle.sctp_text.specs.declared.limits.TheConstants.{LINE_FEED, LONGEST_TEXT}
use Rattle.sctp_text.specs.declared.line_reader.Stop.{Stop}
use Rattle.sctp_text.specs.declared.line_reader.Stop.TheVariants as stop
use Rattle.sctp_text.specs.declared.line_reader.SkippedLine.{SkippedLine}
use Rattle.sctp_text.specs.declared.line_reader.SkippedLine.TheVariants as skipped
use Rattle.sctp_text.specs.TextLines.{IsTooLong, IsOneLine, ended, first_end}

-- with the line so far and what the block still holds: why the line is gathered no further, or that the block is used up
abbrev pub IsGathered : {E : Type 0} → ℕ → Result (Option Stop) E → List ℕ → List ℕ → Type 0
IsGathered given (Ok None) line rest = rest ≡ []
IsGathered given (Ok (Some stop.LineFeed)) line rest = (tail : List ℕ) × (rest ≡ LINE_FEED ∷ tail) × (given + length line < LONGEST_TEXT)
IsGathered given (Ok (Some stop.TooLong)) line rest = IsTooLong given (line ++ rest)
IsGathered given (Err _) line rest = Unit {0}

-- P, if the input has ended
abbrev pub AtEndOfInput : {E : Type 0} → Result (Option Stop) E → Type 0 → Type 0
AtEndOfInput (Ok None) P = P
AtEndOfInput (Ok (Some _)) P = Unit {0}
AtEndOfInput (Err _) P = Unit {0}

-- what of a block is discarded with a line: all of it, the line's end with its line feed, or nothing if the text is too long
abbrev pub IsPassed : Option SkippedLine → ℕ → List ℕ → ℕ → List ℕ → Type 0
IsPassed None given block now rest = IsOneLine block × (rest ≡ []) × (now ≡ given + length block)
IsPassed (Some skipped.Ended) given block now rest = (line : List ℕ) × IsOneLine line × (block ≡ ended line ++ rest) × (now ≡ given + length (ended line))
IsPassed (Some skipped.Last) given block now rest = ⊥
IsPassed (Some skipped.TextTooLong) given block now rest = (rest ≡ block) × (now ≡ given) × (LONGEST_TEXT < given + first_end block)
