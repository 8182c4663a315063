-- The lines of a text: the bytes between its line feeds, and those after the last one, if there are any. The state of a reader of lines.
use Rattle.std.specs.Prelude.{◌≡◌, ℕ, ◌+◌, ◌<◌, ◌≤◌, ◌==◌, min, Bool, false, if◌then◌else◌, ◌⊎◌, List, [], ◌∷◌, ◌++◌, length}
use Rattle.std.specs.List.{All, flat_map, slice_split, position_or_len}
use Rattle.sctp_text.specs.declared.block.TheConstants.{BLOCK}
use Rattle.sctp_text.specs.declared.limits.TheConstants.{LINE_FEED, LONGEST_LINE, LONGEST_TEXT}

-- the byte ends a line
abbrev pub is_line_feed : ℕ → Bool
is_line_feed byte = byte == LINE_FEED

-- no line feed is among the bytes
abbrev pub IsOneLine : List ℕ → Type 0
IsOneLine bytes = All (λ byte. is_line_feed byte ≡ false) bytes

-- a line and the line feed that ends it
abbrev pub ended : List ℕ → List ℕ
ended line = line ++ LINE_FEED ∷ []

-- lines one after another, each with its line feed
abbrev pub joined : List (List ℕ) → List ℕ
joined lines = flat_map ended lines

-- the parts but the last one
abbrev pub without_last : List (List ℕ) → List (List ℕ)
without_last [] = []
without_last (part ∷ []) = []
without_last (part ∷ next ∷ parts) = part ∷ without_last (next ∷ parts)

-- the parts, without the last one if that is empty
abbrev pub without_empty_last : List (List ℕ) → List (List ℕ)
without_empty_last [] = []
without_empty_last (part ∷ []) = if length part == 0 then [] else part ∷ []
without_empty_last (part ∷ next ∷ parts) = part ∷ without_empty_last (next ∷ parts)

-- the lines that a line feed ends: the text is split at each of them
abbrev pub ended_lines_of : List ℕ → List (List ℕ)
ended_lines_of text = without_last (slice_split is_line_feed text)

-- all lines: the bytes after the last line feed are one too, unless there are none
abbrev pub lines_of : List ℕ → List (List ℕ)
lines_of text = without_empty_last (slice_split is_line_feed text)

-- ---- laws: a text has its lines in one way

-- lines with their line feeds, and any rest after them
pub record SplitInOneWay (lines : List (List ℕ)) (rest : List ℕ) : Type 0 where
  pub ended : All IsOneLine lines → ended_lines_of (joined lines ++ rest) ≡ lines ++ ended_lines_of rest
  pub all : All IsOneLine lines → lines_of (joined lines ++ rest) ≡ lines ++ lines_of rest
  pub none_ended : IsOneLine rest → ended_lines_of rest ≡ []
  pub last : IsOneLine rest → lines_of rest ≡ (if length rest == 0 then [] else rest ∷ [])

-- each text is its ended lines and one rest, which is one line, and all of these are its lines
pub record IsLines (text : List ℕ) : Type 0 where
  pub rest : List ℕ
  pub one_line : IsOneLine rest
  pub each : All IsOneLine (ended_lines_of text)
  pub whole : text ≡ joined (ended_lines_of text) ++ rest
  pub lines : lines_of text ≡ ended_lines_of text ++ (if length rest == 0 then [] else rest ∷ [])

-- ---- limits

-- how many bytes the first line has
abbrev pub first_length : List ℕ → ℕ
first_length text = position_or_len is_line_feed text

-- how many it has with the line feed that ends it, if there is one
abbrev pub first_end : List ℕ → ℕ
first_end text = min (first_length text + 1) (length text)

-- after so many bytes of a text, the first line of this text is too long, or makes the whole text too long
abbrev pub IsTooLong : ℕ → List ℕ → Type 0
IsTooLong given text = (LONGEST_LINE < first_length text) ⊎ (LONGEST_TEXT < given + first_end text)

-- after so many bytes of a text, a line that isn't too long may begin with this
pub record MayBegin (given : ℕ) (line : List ℕ) : Type 0 where
  pub one_line : IsOneLine line
  pub small : length line ≤ LONGEST_LINE
  pub within : given + length line ≤ LONGEST_TEXT

-- ---- a reader of lines

-- what is read after what was held: nothing, or all but the last block of it may begin the line
abbrev pub IsReadFor : ℕ → List ℕ → List ℕ → Type 0
IsReadFor given held bytes =
    (bytes ≡ []) ⊎ ((early : List ℕ) × (late : List ℕ) × (bytes ≡ early ++ late) × (length late ≤ BLOCK) × MayBegin given (held ++ early))

-- the state of a reader of lines: the bytes that it has read and not given yet, and how many it has given
pub record Reading : Type 0 where
  pub held : List ℕ
  pub given : ℕ

-- a reader that has read this text has given these lines of it, each with its line feed, and holds all that follows
pub record HasGiven (text : List ℕ) (lines : List (List ℕ)) (now : Reading) : Type 0 where
  pub each : All IsOneLine lines
  pub whole : text ≡ joined lines ++ now.held
  pub count : now.given ≡ length (joined lines)
