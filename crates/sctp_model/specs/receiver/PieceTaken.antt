-- A data chunk arrives at a receiver: which answer it gets, and what that leaves (RFC 9260, 6.2 and 6.6; RFC 3758, 3.6; RFC 8260, 2.2).
use Rattle.std.specs.Prelude.{◌≡◌, ℕ, suc, ◌+◌, if◌then◌else◌, Bool, false, ◌||◌, ◌&&◌, nat_lt, nat_le, ◌==◌, List, [], ◌∷◌, ◌++◌, length, take, not}
use Rattle.sctp_model.specs.numbers.Limits.{DUPLICATE_LIMIT}
use Rattle.sctp_model.specs.wire.Chunk.{PieceMeaning}
use Rattle.sctp_model.specs.messages.Format.{Format, Plain, Interleaved, is_numbered, same_lane}
use Rattle.sctp_model.specs.messages.Pieces.{Piece, same_number, fragment_of}
use Rattle.sctp_model.specs.receiver.ReceiverView.{ReceiverView, IsCumulative, held_bytes}
use Rattle.sctp_model.specs.receiver.Rows.{first_of}
use Rattle.sctp_model.specs.receiver.Reading.{is_behind, is_ahead, is_late, piece_at}
use Rattle.sctp_model.specs.receiver.Receiving.{recorded, TakesPiece}

-- What a receiver answers to a data chunk, in the order of the rows below (RFC 9260, 6.2).
pub data PieceAnswer : Type 0 where
  -- its TSN was recorded before, or is old
  Duplicate : PieceAnswer
  -- its TSN is too far ahead to be recorded
  Ahead : PieceAnswer
  -- there is no such stream
  NoSuchStream : PieceAnswer
  -- its message isn't waited for any longer, or has this fragment
  Passed : PieceAnswer
  -- its data doesn't fit the buffer
  NoRoom : PieceAnswer
  -- it is recorded and kept
  Kept : PieceAnswer

-- ---- a chunk that isn't wanted

-- both are the same fragment of one message (RFC 8260, 2.1)
abbrev pub are_one_fragment : Piece → Piece → Bool
are_one_fragment y x = same_lane y.lane x.lane && (same_number y.number x.number && (fragment_of y == fragment_of x))

-- a kept chunk is the same fragment
abbrev pub is_held : List Piece → Piece → Bool
is_held [] x = false
is_held (y ∷ ys) x = are_one_fragment y x || is_held ys x

-- Under I-DATA a fragment may arrive again with another TSN; under DATA a fragment is its TSN.
abbrev pub is_repeated : Format → List Piece → Piece → Bool
is_repeated Plain kept x = false
is_repeated Interleaved kept x = is_held kept x

-- The chunk is passed: its number is too late, if the format numbers its lane, or it is a fragment that is kept already.
abbrev pub is_passed : Format → ReceiverView → Piece → Bool
is_passed f r x = (is_numbered f x.lane.kind && is_late r x.lane x.number) || is_repeated f r.kept x

-- the TSN is old, or was recorded
abbrev pub is_duplicate : Format → ReceiverView → (c : ℕ) → PieceMeaning → Bool
is_duplicate f r c p = is_behind r c p.tsn || r.seen (piece_at f r c p).index

-- ---- a chunk that no sender may send (RFC 8260, 2.1)

-- an I-DATA without B that says the fragment number of the first fragment
abbrev pub is_beginless : Format → PieceMeaning → Bool
is_beginless Plain p = false
is_beginless Interleaved p = not p.begin && (p.word == 0)

-- it is that, or a fragment that is held already, under a TSN that is new
abbrev pub is_misnumbered : Format → ReceiverView → (c : ℕ) → PieceMeaning → Bool
is_misnumbered f r c p =
    is_beginless f p || (not (is_duplicate f r c p || is_ahead r c p.tsn) && is_repeated f r.kept (piece_at f r c p))

-- ---- THE TABLE OF ANSWERS

-- the space that a chunk with this index has to leave: the next one expected may fill the buffer, one after a gap leaves the reserve
abbrev pub left_free : ReceiverView → (c index : ℕ) → ℕ
left_free r c i = if i == suc c then 0 else r.reserve

-- the data would fill more than the buffer, or than the reserve leaves of it
abbrev pub is_too_much : Format → ReceiverView → (c : ℕ) → PieceMeaning → Bool
is_too_much f r c p = nat_lt r.buffer (held_bytes r + length p.bytes + left_free r c (piece_at f r c p).index)

-- The rows in their order; below them all it is taken.
abbrev pub answer_to : Format → ReceiverView → (c : ℕ) → PieceMeaning → PieceAnswer
answer_to f r c p = first_of
    ((is_duplicate f r c p, Duplicate)
    ∷ (is_ahead r c p.tsn, Ahead)
    ∷ (nat_le r.streams p.stream, NoSuchStream)
    ∷ (is_passed f r (piece_at f r c p), Passed)
    ∷ (is_too_much f r c p, NoRoom)
    ∷ [])
    Kept

-- ---- WHAT EACH ANSWER LEAVES

-- a duplicate is reported in the next SACK, if it is among the first of them (RFC 9260, 6.2)
abbrev pub noted : ReceiverView → (wire : ℕ) → ReceiverView
noted r wire = record r { duplicates = take DUPLICATE_LIMIT (r.duplicates ++ wire ∷ []) }

-- Of a chunk that isn't wanted the index alone is recorded; one that is taken is kept, and what is due then is delivered.
abbrev pub Leaves : Format → ReceiverView → Piece → (wire : ℕ) → PieceAnswer → ReceiverView → Type 0
Leaves f r x wire Duplicate t = t ≡ noted r wire
Leaves f r x wire Ahead t = t ≡ r
Leaves f r x wire NoSuchStream t = t ≡ recorded r x
Leaves f r x wire Passed t = t ≡ recorded r x
Leaves f r x wire NoRoom t = t ≡ r
Leaves f r x wire Kept t = TakesPiece f r x t

-- A DATA CHUNK TAKEN: read at the cumulative index c, it is answered by the table, and the answer leaves t.
pub record PieceTaken (f : Format) (r : ReceiverView) (p : PieceMeaning) (a : PieceAnswer) (t : ReceiverView) : Type 0 where
  pub c : ℕ
  pub cumulative : IsCumulative r c
  pub answer : a ≡ answer_to f r c p
  pub leaves : Leaves f r (piece_at f r c p) p.tsn a t
