-- What a message taken out says, and what it leaves.
use Rattle.std.specs.Prelude.{◌≡◌, ℕ, suc, ◌<◌, ◌≤◌, false, not, List, ◌∷◌, map, filter, Option, Some, None}
use Rattle.sctp_model.specs.numbers.Lists.{Has}
use Rattle.sctp_model.specs.messages.Format.{Format, Lane}
use Rattle.sctp_model.specs.messages.Pieces.{Piece, is_number_below, payload_of}
use Rattle.sctp_model.specs.receiver.Receiving.{IsWholeNumber, IsLowest, HasNoWhole, IsWholeWith, HasNoWholeWith, without_message}
use Rattle.sctp_chains.specs.Links.{ChainKept, bytes_of}
use Rattle.sctp_chains.specs.StandsFor.{StandsFor}
use Rattle.sctp_chains.specs.Fragments.{fragments_in}
use Rattle.sctp_chains.specs.declared.chain.Head.{Head}
use Rattle.sctp_chains.specs.declared.whole.Whole.{Whole}
use Rattle.sctp_chains.specs.declared.chains.Chains.{Chains}

-- the message that these chunks make, with their data as its parts
pub record IsMadeOf (f : Format) (m : Whole) (x : Piece) (xs : List Piece) : Type 0 where
  pub first : m.first ≡ x.index
  pub number : m.number ≡ x.number
  pub payload : m.payload_id ≡ payload_of f x
  pub parts : map bytes_of (fragments_in m.parts) ≡ map (λ (y : Piece). y.bytes) (x ∷ xs)

-- a chain as a message, its data moved
pub record IsWholeOf (c : ChainKept) (h : Head) (n : Option ℕ) (m : Whole) : Type 0 where
  pub first : m.first ≡ h.index
  pub number : m.number ≡ n
  pub payload : m.payload_id ≡ h.payload_id
  pub parts : map bytes_of (fragments_in m.parts) ≡ c.parts

-- the chunks that stay when those below a number go
abbrev pub from_number : (number : ℕ) → List Piece → List Piece
from_number n kept = filter (λ (x : Piece). not (is_number_below n x.number)) kept

-- ---- the lowest whole message within bounds

-- It is the whole message of number n, of several the one that begins lowest; no number from the lower bound up to it is whole; and all
-- chunks up to its number are gone.
pub record TakesNumber {F : Type 0} (f : Format) (l : Lane) (kept : List Piece) (from last : ℕ) (m : Whole) (new : Chains F) (n : ℕ) : Type 0 where
  pub number : m.number ≡ Some n
  pub low : from ≤ n
  pub high : n ≤ last
  pub before : (k : ℕ) → from ≤ k → k < n → HasNoWhole f kept l k
  pub head : Piece
  pub rest : List Piece
  pub whole : IsWholeNumber f kept l n (head ∷ rest)
  pub lowest : IsLowest f kept l n (head ∷ rest)
  pub made : IsMadeOf f m head rest
  pub left : StandsFor f new l (from_number (suc n) kept)

-- the lowest whole message of these numbers is taken, or none is whole
abbrev pub TakesLowest : {F : Type 0} → Format → Lane → List Piece → (from last : ℕ) → Option Whole → Chains F → Type 0
TakesLowest f l kept from last None new = ((n : ℕ) → from ≤ n → n ≤ last → HasNoWhole f kept l n) × StandsFor f new l kept
TakesLowest f l kept from last (Some m) new = (n : ℕ) × TakesNumber f l kept from last m new n

-- no chunk has this number or a lower one
abbrev pub AreAbove : ℕ → List Piece → Type 0
AreAbove n kept = (y : Piece) → Has kept y → is_number_below (suc n) y.number ≡ false

-- No chunks are a whole message, and none lies below a number.
pub record IsResting (f : Format) (l : Lane) (kept : List Piece) (n : ℕ) : Type 0 where
  pub none : (k : ℕ) → HasNoWhole f kept l k
  pub above : from_number n kept ≡ kept

-- ---- the whole message of one chunk

-- It is whole with this chunk among its own, and what goes with it is gone.
pub record TakesMessage {F : Type 0} (f : Format) (l : Lane) (kept : List Piece) (y : Piece) (m : Whole) (new : Chains F) : Type 0 where
  pub head : Piece
  pub rest : List Piece
  pub whole : IsWholeWith f kept y (head ∷ rest)
  pub made : IsMadeOf f m head rest
  pub left : StandsFor f new l (without_message f kept (head ∷ rest))

-- the whole message of the chunk is taken, or it is in none
abbrev pub TakesWith : {F : Type 0} → Format → Lane → List Piece → Piece → Option Whole → Chains F → Type 0
TakesWith f l kept y None new = HasNoWholeWith f kept y × StandsFor f new l kept
TakesWith f l kept y (Some m) new = TakesMessage f l kept y m new
