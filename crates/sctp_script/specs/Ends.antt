-- Which endpoints a line of options is for.
use Rattle.std.specs.Prelude.{ℕ, Bool, true, false, List, codes}
use Rattle.sctp_script.specs.declared.option_name.Ends.{Ends}
use Rattle.sctp_script.specs.declared.option_name.Ends.TheVariants.{A, B, Both}

-- the word for them
abbrev pub ends_word : Ends → List ℕ
ends_word A = codes "A"
ends_word B = codes "B"
ends_word Both = codes "both"

-- A is one of them
abbrev pub has_a : Ends → Bool
has_a A = true
has_a B = false
has_a Both = true

-- B is one of them
abbrev pub has_b : Ends → Bool
has_b A = false
has_b B = true
has_b Both = true
