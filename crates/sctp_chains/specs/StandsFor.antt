-- Which chains stand for which kept chunks of one lane.
use Rattle.std.specs.Prelude.{◌≡◌, ℕ, ◌+◌, ◌^◌, ◌<◌, List, map, length}
use Rattle.sctp_model.specs.numbers.Lists.{Has}
use Rattle.sctp_model.specs.messages.Format.{Format, Lane}
use Rattle.sctp_model.specs.messages.Pieces.{Piece}
use Rattle.sctp_model.specs.receiver.ReceiverView.{size_of_pieces}
use Rattle.sctp_model.specs.receiver.Laws.{IsOnePlace, IsFilledOnce}
use Rattle.sctp_chains.specs.Same.{AreSame}
use Rattle.sctp_chains.specs.Cells.{cell_of, IsOf}
use Rattle.sctp_chains.specs.Links.{ChainKept, chain_of, cells_of, AreChains}
use Rattle.sctp_chains.specs.declared.chains.Chains.{Chains}

-- The chains have just the chunks of the list, in whatever order, which are of the lane and fill no place twice; and their bytes are counted.
pub record KeepsLane (f : Format) (l : Lane) (cs : List ChainKept) (bytes : ℕ) (kept : List Piece) : Type 0 where
  pub of : (x : Piece) → Has kept x → IsOf f l x
  pub apart : IsFilledOnce f kept
  pub chains : AreChains cs
  pub same : AreSame (map (cell_of f) kept) (cells_of cs)
  pub held : bytes ≡ size_of_pieces kept

-- they stand for these chunks of the lane
unfoldable pub StandsFor : {F : Type 0} → Format → Chains F → Lane → List Piece → Type 0
StandsFor f r l kept = KeepsLane f l (map chain_of r.filed.chains.items) r.held kept

-- how many chains there are
unfoldable pub chain_count : {F : Type 0} → Chains F → ℕ
chain_count r = length r.filed.chains.items

-- how many of them became whole messages and are there still, at the most
unfoldable pub whole_count : {F : Type 0} → Chains F → ℕ
whole_count r = r.filed.whole

-- A chunk of the lane for a place that none fills, and 32 bits count all bytes.
pub record IsNew (f : Format) (l : Lane) (kept : List Piece) (x : Piece) : Type 0 where
  pub of : IsOf f l x
  pub free : (y : Piece) → Has kept y → IsOnePlace f x y → ⊥
  pub fits : size_of_pieces kept + length x.bytes < 2 ^ 32
