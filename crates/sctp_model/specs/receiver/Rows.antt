-- A table of answers, read from its top.
use Rattle.std.specs.Prelude.{Bool, if◌then◌else◌, List, [], ◌∷◌}

-- The first row that holds has the answer; if none holds, it is the one below the table.
abbrev pub first_of : {A : Type 0} → List (Bool × A) → A → A
first_of [] below = below
first_of ((holds, answer) ∷ rows) below = if holds then answer else first_of rows below
