-- What is kept of a sequence.
use Rattle.std.specs.Prelude.{Bool, List, refl}
use Rattle.std.specs.Coded.{Coded, code_by, coded×, coded_list, coded_bool}

-- The items in order, and whether one more may come at any place without new memory.
pub record SequenceKept (X : Type 0) : Type 0 where
  pub items : List X
  pub room : Bool

-- it is stored as the pair of its fields
abbrev pub sequence_code : {X : Type 0} → Coded X → Coded (SequenceKept X)
sequence_code {X} c =
    code_by (List X × Bool) (coded× (coded_list c) coded_bool) (λ s. (s.items, s.room)) (λ p. record { items = p.0; room = p.1 }) (λ _. refl)
