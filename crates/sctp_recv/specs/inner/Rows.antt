-- What a chunk or a FORWARD is read as, before anything is done with it.
use Rattle.std.specs.Prelude.{◌≡◌, ℕ, suc, ◌+◌, ◌-◌, ◌<◌, ◌≤◌, true, false, ◌||◌, nat_lt, nat_le, Option, Some, length}
use Rattle.sctp_model.specs.numbers.Limits.{WINDOW}
use Rattle.sctp_model.specs.numbers.Serial.{COUNTS, tsn, ahead, before}
use Rattle.sctp_model.specs.messages.Format.{Format, Kind}
use Rattle.sctp_model.specs.wire.Chunk.{PieceMeaning}
use Rattle.sctp_model.specs.receiver.ReceiverView.{ReceiverView}
use Rattle.sctp_model.specs.receiver.Reading.{lane_of, piece_at}
use Rattle.sctp_chains.specs.Cells.{IsOf}
use Rattle.sctp_chains.specs.Cells.{counted}
use Rattle.sctp_model.specs.receiver.PieceTaken as model
use Rattle.sctp_recv.specs.declared.answer.Row.{Row}
use Rattle.sctp_recv.specs.declared.answer.Row.TheVariants.{Duplicate, Ahead, NoSuchStream, Passed, NoRoom, Uncounted, Taken}
use Rattle.sctp_recv.specs.declared.answer.TsnPlace.{TsnPlace}
use Rattle.sctp_recv.specs.declared.answer.TsnPlace.TheVariants as place
use Rattle.sctp_recv.specs.ReceiverKept.{ReceiverKept, StreamKept, near_of, number_read}
use Rattle.sctp_recv.specs.Resets.{base_of, restart_in}
use Rattle.sctp_recv.specs.ResetsKept.{ResetsKept}
use Rattle.sctp_recv.specs.SeenKept.{is_reached}

-- ---- a TSN

-- how far a TSN lies above that of the cumulative index
abbrev pub offset_from : (initial c wire : ℕ) → ℕ
offset_from initial c wire = ahead 32 (tsn initial c) wire

-- the TSN lies above the cumulative index and within the window, and stands for this index
pub record IsAbove (initial c wire i : ℕ) : Type 0 where
  pub ahead : before 32 (tsn initial c) wire ≡ true
  pub window : offset_from initial c wire ≤ WINDOW
  pub index : i ≡ c + offset_from initial c wire
  pub above : c < i
  pub count : suc i < COUNTS

-- where it lies
abbrev pub IsTsnPlace : (initial c wire : ℕ) → TsnPlace → Type 0
IsTsnPlace initial c wire place.Behind = before 32 (tsn initial c) wire ≡ false
IsTsnPlace initial c wire place.Ahead =
    (before 32 (tsn initial c) wire ≡ true) × ((nat_lt WINDOW (offset_from initial c wire) || nat_le (COUNTS - 1) (c + offset_from initial c wire)) ≡ true)
IsTsnPlace initial c wire (place.At i) = IsAbove initial c wire i

-- ---- a chunk

-- the number of one of this stream and kind, with this wire value
abbrev pub number_at : Format → Option ResetsKept → (stream : ℕ) → StreamKept → Kind → (wire : ℕ) → Option ℕ
number_at f resets s known k wire = number_read f k (base_of (restart_in resets s) k) wire (near_of known k)

-- its index is above the cumulative one, within the window, and wasn't recorded
pub record IsNewIndex (f : Format) (k : ReceiverKept) (v : ReceiverView) (p : PieceMeaning) (i : ℕ) : Type 0 where
  pub index : i ≡ (piece_at f v k.seen.cumulative p).index
  pub new : is_reached k.seen i ≡ false
  pub unseen : v.seen i ≡ false
  pub near : i ≤ k.seen.cumulative + WINDOW
  pub count : suc i < COUNTS

-- and it can be kept
pub record IsWanted (f : Format) (k : ReceiverKept) (v : ReceiverView) (p : PieceMeaning) (i : ℕ) (n : Option ℕ) : Type 0 where
  pub new : IsNewIndex f k v p i
  pub number : n ≡ (piece_at f v k.seen.cumulative p).number
  pub small : (m : ℕ) → n ≡ Some m → suc m < COUNTS
  pub stream : p.stream < length k.streams
  pub wanted : model.is_passed f v (piece_at f v k.seen.cumulative p) ≡ false
  pub fits : k.held + length p.bytes ≤ k.buffer
  pub of : IsOf f (lane_of p.stream p.unordered) (counted i p n)

-- by the space in the buffer alone
abbrev pub IsByRoom : ReceiverKept → (size : ℕ) → Row → Type 0
IsByRoom k n Duplicate = ⊥
IsByRoom k n Ahead = ⊥
IsByRoom k n (NoSuchStream i) = ⊥
IsByRoom k n (Passed i) = ⊥
IsByRoom k n NoRoom = k.buffer < k.held + n
IsByRoom k n Uncounted = k.held + n ≤ k.buffer
IsByRoom k n (Taken i m) = ⊥

-- its answer by the table, read at the cumulative index that is kept
abbrev pub answer_at : Format → ReceiverKept → ReceiverView → PieceMeaning → model.PieceAnswer
answer_at f k v p = model.answer_to f v k.seen.cumulative p

-- what is to be done with a chunk
abbrev pub IsRowOf : Format → ReceiverKept → ReceiverView → PieceMeaning → Row → Type 0
IsRowOf f k v p Duplicate = answer_at f k v p ≡ model.Duplicate
IsRowOf f k v p Ahead = answer_at f k v p ≡ model.Ahead
IsRowOf f k v p (NoSuchStream i) = (answer_at f k v p ≡ model.NoSuchStream) × IsNewIndex f k v p i
IsRowOf f k v p (Passed i) = (answer_at f k v p ≡ model.Passed) × IsNewIndex f k v p i
IsRowOf f k v p NoRoom = answer_at f k v p ≡ model.NoRoom
IsRowOf f k v p Uncounted = answer_at f k v p ≡ model.Kept
IsRowOf f k v p (Taken i n) = (answer_at f k v p ≡ model.Kept) × IsWanted f k v p i n
