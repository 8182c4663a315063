-- What a sequence ends as, where a `&mut` to one of its items was lent.
use Rattle.std.specs.Prelude.{ℕ, slice_set}
use Rattle.std.specs.Borrow.{Lends, Fml, RattleType, MutBor}
use Rattle.sctp_sequence.specs.Kept.{SequenceKept}
use Rattle.sctp_sequence.specs.contracts.sequence.Sequence.{the_row}

-- the item at a place is the last one written through the reference, and the others and the room are as they were
abbrev pub LendsItem : (R : RattleType) → MutBor (SequenceKept R.Denot) → ℕ → MutBor R.Denot → Fml
LendsItem R s at r = Lends (the_row R) R s r (λ w. record { items = slice_set s.now.items at w; room = s.now.room })
