-- What may be delivered on a stream, without a walk over its numbers (RFC 9260, 6.6; RFC 3758, 3.6).
use Rattle.std.specs.Prelude.{◌≡◌, ℕ, ◌<◌, ◌≤◌, List, ◌∷◌}
use Rattle.sctp_model.specs.numbers.Lists.{Has}
use Rattle.sctp_model.specs.messages.Format.{Format, ordered_lane}
use Rattle.sctp_model.specs.messages.Pieces.{Piece}
use Rattle.sctp_model.specs.receiver.ReceiverView.{Handed, ReceiverView}
use Rattle.sctp_model.specs.receiver.Receiving.{IsWholeNumber, IsLowest, HasNoWhole, message_of}
use Rattle.sctp_model.specs.world.Safe.{IsRising}

-- the smallest number with a property
pub record IsSmallest (P : ℕ → Type 0) (m : ℕ) : Type 0 where
  pub has : P m
  pub least : (n : ℕ) → P n → m ≤ n

-- the number is still to come: at or past `from`, above the skipped ones, and not whole
abbrev pub IsToCome : Format → ReceiverView → (s from n : ℕ) → Type 0
IsToCome f r s from n = (from ≤ n) × (r.skip (ordered_lane s) ≤ n) × HasNoWhole f r.kept (ordered_lane s) n

-- these chunks are the stream's whole message of the number n; of several, those that begin lowest
abbrev pub AreMessage : Format → ReceiverView → (s n : ℕ) → List Piece → Type 0
AreMessage f r s n xs = IsWholeNumber f r.kept (ordered_lane s) n xs × IsLowest f r.kept (ordered_lane s) n xs

-- a whole message with a number from `from` to m - 1
pub record IsPassedWhole (f : Format) (r : ReceiverView) (s from m : ℕ) (h : Handed) : Type 0 where
  pub number : ℕ
  pub begun : from ≤ number
  pub ended : number < m
  pub head : Piece
  pub rest : List Piece
  pub chunks : AreMessage f r s number (head ∷ rest)
  pub made : message_of f head rest ≡ h

-- DUE ON A STREAM, from a number on: m is the smallest one still to come, and all whole messages before it are delivered, in rising number.
pub record IsDueInWords (f : Format) (r : ReceiverView) (s from : ℕ) (ms : List Handed) (m : ℕ) : Type 0 where
  pub waits : IsSmallest (IsToCome f r s from) m
  pub in_order : IsRising ms
  pub only : (h : Handed) → Has ms h → IsPassedWhole f r s from m h
  pub all : (h : Handed) → IsPassedWhole f r s from m h → Has ms h
