-- Views as calls leave them. Every call of a receiver keeps these, and from such a view each step has one result.
use Rattle.std.specs.Prelude.{◌≡◌, ℕ, ◌≤◌, true, false, List}
use Rattle.sctp_model.specs.numbers.Lists.{Has}
use Rattle.sctp_model.specs.messages.Format.{Format, Plain, Interleaved, Unordered, ordered_lane}
use Rattle.sctp_model.specs.messages.Pieces.{Piece, fragment_of}
use Rattle.sctp_model.specs.receiver.ReceiverView.{ReceiverView, held_bytes}
use Rattle.sctp_model.specs.receiver.Receiving.{is_below, HasNoWhole, HasNoWholeWith}

-- ---- what is kept

-- The two chunks fill one place: of a message's fragments under I-DATA, of the indexes under DATA.
abbrev pub IsOnePlace : Format → Piece → Piece → Type 0
IsOnePlace Plain x y = x.index ≡ y.index
IsOnePlace Interleaved x y = (x.lane ≡ y.lane) × (x.number ≡ y.number) × (fragment_of x ≡ fragment_of y)

-- no place is filled twice
abbrev pub IsFilledOnce : Format → List Piece → Type 0
IsFilledOnce f kept = (x y : Piece) → Has kept x → Has kept y → IsOnePlace f x y → x ≡ y

-- Each place is filled once, and by a chunk whose index was recorded.
pub record IsOrdinary (f : Format) (r : ReceiverView) : Type 0 where
  pub apart : IsFilledOnce f r.kept
  pub recorded : (y : Piece) → Has r.kept y → r.seen y.index ≡ true

-- ---- what is due

-- the stream's next number really waits: it isn't skipped, and no whole message has it
pub record IsWaiting (f : Format) (r : ReceiverView) (s : ℕ) : Type 0 where
  pub passed : r.skip (ordered_lane s) ≤ r.next s
  pub none : HasNoWhole f r.kept (ordered_lane s) (r.next s)

-- AT REST: nothing is to be delivered, neither in order nor without.
pub record IsIdle (f : Format) (r : ReceiverView) : Type 0 where
  pub ordered : (s : ℕ) → IsWaiting f r s
  pub unordered : (y : Piece) → y.lane.kind ≡ Unordered → HasNoWholeWith f r.kept y

-- what was passed over is gone: no ordered chunk lies below its stream's next number
abbrev pub IsSettled : ReceiverView → Type 0
IsSettled r = (s : ℕ) (x : Piece) → Has r.kept x → is_below s (r.next s) x ≡ false

-- A VIEW AS CALLS LEAVE IT
pub record IsAtRest (f : Format) (r : ReceiverView) : Type 0 where
  pub ordinary : IsOrdinary f r
  pub idle : IsIdle f r
  pub settled : IsSettled r

-- WHAT IS HELD FITS THE BUFFER (a_rwnd: RFC 9260, 3.3.4)
abbrev pub FitsBuffer : ReceiverView → Type 0
FitsBuffer r = held_bytes r ≤ r.buffer
