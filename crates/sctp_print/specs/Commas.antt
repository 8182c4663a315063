-- The word of a list, from its items, each after a comma.
use Rattle.std.specs.Prelude.{ℕ, List, [], ◌∷◌}
use Rattle.sctp_print.specs.declared.words.TheConstants.{DASH}

-- the word without its first comma, `-` if it is empty
abbrev pub behind_comma : List ℕ → List ℕ
behind_comma [] = DASH ∷ []
behind_comma (c ∷ cs) = cs
