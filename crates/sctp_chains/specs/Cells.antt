-- What a lane keeps of each of its chunks (RFC 9260, 6.9; RFC 8260, 2.2.2).
use Rattle.std.specs.Prelude.{◌≡◌, ℕ, suc, ◌+◌, ◌*◌, ◌^◌, ◌<◌, ◌≤◌, Bool, List, [], Option, Some, None, is_some, if◌then◌else◌}
use Rattle.sctp_model.specs.numbers.Lists.{Has}
use Rattle.sctp_model.specs.numbers.Serial.{COUNTS}
use Rattle.sctp_model.specs.messages.Format.{Format, Lane, is_numbered}
use Rattle.sctp_model.specs.messages.Framing.{place_in, begins_in, payload_in}
use Rattle.sctp_model.specs.wire.Chunk.{PieceMeaning}
use Rattle.sctp_model.specs.messages.Pieces.{Piece}
use Rattle.sctp_model.specs.receiver.Reading.{lane_of}
use Rattle.sctp_chains.specs.declared.chain.Head.{Head}

-- ---- where a chunk stands

-- messages without a number stand in one row
abbrev pub key_of : Option ℕ → ℕ
key_of None = 0
key_of (Some n) = n

-- where a fragment stands in its lane: by its message's number, then by its place in the message
abbrev pub rank_at : Option ℕ → (place : ℕ) → ℕ
rank_at n place = key_of n * 2 ^ 64 + place

-- where a chunk stands: the place is its index or, under I-DATA, its fragment number
abbrev pub rank_of : Format → Piece → ℕ
rank_of f x = rank_at x.number (place_in f x.index x.begin x.word)

-- ---- what is kept of it

-- Its rank, what it says of its message where one begins with it, whether the message ends with it, and its data.
pub record Cell : Type 0 where
  pub rank : ℕ
  pub head : Option Head
  pub end : Bool
  pub bytes : List ℕ

-- its index and the payload id, if a message begins with it
abbrev pub head_of : Format → Piece → Option Head
head_of f x = if begins_in f x.begin x.word then Some (record { index = x.index; payload_id = payload_in f x.begin x.word }) else None

-- a chunk as it is kept
abbrev pub cell_of : Format → Piece → Cell
cell_of f x = record { rank = rank_of f x; head = head_of f x; end = x.end; bytes = x.bytes }

-- ---- chunks that a lane takes

-- kept chunks, in any order
abbrev pub Kept : Type 0
Kept = List Piece

-- the lowest index of these, none exactly where there is none of them
abbrev pub IsLowestIndex : Kept → Option ℕ → Type 0
IsLowestIndex kept None = kept ≡ []
IsLowestIndex kept (Some i) = ((x : Piece) → Has kept x → i ≤ x.index) × ((x : Piece) × Has kept x × (x.index ≡ i))

-- A chunk of the lane, with a number exactly where its format numbers the lane, and with counts that 64 bits hold.
pub record IsOf (f : Format) (l : Lane) (x : Piece) : Type 0 where
  pub lane : x.lane ≡ l
  pub numbered : is_some x.number ≡ is_numbered f l.kind
  pub number : (n : ℕ) → x.number ≡ Some n → n < COUNTS
  pub index : suc x.index < COUNTS
  pub word : x.word < COUNTS

-- a data chunk with this index and number in place of its wire values
abbrev pub counted : ℕ → PieceMeaning → Option ℕ → Piece
counted i p n = record {
  index = i;
  lane = lane_of p.stream p.unordered;
  number = n;
  begin = p.begin;
  end = p.end;
  word = p.word;
  bytes = p.bytes;
}
