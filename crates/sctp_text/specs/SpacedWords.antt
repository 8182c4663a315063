-- Words with one space between them, as the lines that are read and the lines that are written have them. Bytes are ASCII codes.
use Rattle.std.specs.Prelude.{◌≡◌, ◌≢◌, ℕ, Bool, true, false, if◌then◌else◌, ◌==◌, List, [], ◌∷◌, ◌++◌, All}
use Rattle.sctp_text.specs.declared.limits.TheConstants.{LINE_FEED, SPACE}

-- each word after a space
abbrev pub each_behind_space : List (List ℕ) → List ℕ
each_behind_space [] = []
each_behind_space (w ∷ ws) = SPACE ∷ (w ++ each_behind_space ws)

-- words with one space between them
abbrev pub spaced : List (List ℕ) → List ℕ
spaced [] = []
spaced (w ∷ ws) = w ++ each_behind_space ws

-- a line of these words
abbrev pub line_of : List (List ℕ) → List ℕ
line_of ws = spaced ws ++ LINE_FEED ∷ []

-- a byte at the front of the first word
abbrev pub onto_first : ℕ → List (List ℕ) → List (List ℕ)
onto_first c [] = (c ∷ []) ∷ []
onto_first c (w ∷ ws) = (c ∷ w) ∷ ws

-- the words of a line: the stretches between its spaces, at least one, some of them perhaps empty
abbrev pub words_of : List ℕ → List (List ℕ)
words_of [] = [] ∷ []
words_of (c ∷ cs) = if c == SPACE then [] ∷ words_of cs else onto_first c (words_of cs)

-- the words left of a line, none at its end
abbrev pub words_left : Bool → List ℕ → List (List ℕ)
words_left true rest = []
words_left false rest = words_of rest

-- the words that, with one space between them, are the line, and have no space inside
pub record AreItsWords (line : List ℕ) (ws : List (List ℕ)) : Type 0 where
  pub joined : line ≡ spaced ws
  pub apart : All (λ w. All (λ c. c ≢ SPACE) w) ws
