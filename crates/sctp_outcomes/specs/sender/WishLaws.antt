-- What the sender's functions compute of the next wish is what the relations say, and nothing else.
use Rattle.std.specs.Prelude.{◌≡◌, ◌↔◌, ℕ, Some}
use Rattle.sctp_model.specs.messages.Format.{Format}
use Rattle.sctp_model.specs.sender.SenderView.{SenderView}
use Rattle.sctp_model.specs.sender.Assigning.{turn_of, assigned}
use Rattle.sctp_model.specs.sender.Filling.{Wish, next_wish}
use Rattle.sctp_outcomes.specs.sender.Wishes.{SendsInTurn, TakesIndex, IsNextWish}

-- what a stream sends in its turn
abbrev pub TurnIsComputed : Type 0
TurnIsComputed = (v u : SenderView) (s : ℕ) → (turn_of v s ≡ Some u) ↔ SendsInTurn v s u

-- what takes its index next
abbrev pub NextIndexIsComputed : Type 0
NextIndexIsComputed = (f : Format) (v u : SenderView) → (assigned f v ≡ Some u) ↔ TakesIndex v f u

-- the next wish of every view
abbrev pub NextWishIsComputed : Type 0
NextWishIsComputed = (f : Format) (v : SenderView) (w : Wish) → (next_wish f v ≡ Some w) ↔ IsNextWish f v w
