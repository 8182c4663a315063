-- What differs between the two formats, on plain numbers: what a fragment's chunk says, how it is read again, and what a FORWARD names and
-- lets go (RFC 9260, 3.3.1 and 6.9; RFC 3758, 3.2 and 3.6; RFC 8260, 2.1, 2.2 and 2.3).
use Rattle.std.specs.Prelude.{ℕ, ◌-◌, Bool, true, false, ◌||◌, ◌==◌, nat_lt, nat_le, Option, Some, None, if◌then◌else◌}
use Rattle.sctp_model.specs.messages.Format.{Format, Plain, Interleaved, Kind, Ordered, Unordered}
use Rattle.sctp_model.specs.wire.Chunk.{PieceMeaning, ForwardMeaning, ChunkMeaning, Data, IData, ForwardTsn, IForwardTsn}
use Rattle.sctp_model.specs.numbers.Serial.{COUNTS, ssn, mid, near}

-- the kind that the flag U says (RFC 9260, 3.3.1)
abbrev pub lane_kind : (unordered : Bool) → Kind
lane_kind true = Unordered
lane_kind false = Ordered

-- ---- a fragment's chunk

-- the chunk of user data: a DATA or an I-DATA
abbrev pub data_chunk : Format → PieceMeaning → ChunkMeaning
data_chunk Plain p = Data p
data_chunk Interleaved p = IData p

-- the bytes of a chunk before its data (RFC 9260, 3.3.1; RFC 8260, 2.1)
abbrev pub header_of : Format → ℕ
header_of Plain = 16
header_of Interleaved = 20

-- The wire value of a message's number: an SSN, which is 0 without order, or a MID.
abbrev pub wire_number : Format → Kind → (number : ℕ) → ℕ
wire_number Plain Ordered n = ssn n
wire_number Plain Unordered n = 0
wire_number Interleaved k n = mid n

-- Whether streams take turns, a fragment each (RFC 8260, 2.2.2 and 3.2); else all fragments of a message take their indexes at once (RFC 9260, 6.9).
abbrev pub takes_turns : Format → Bool
takes_turns Plain = false
takes_turns Interleaved = true

-- ---- reading it again

-- a count of 2 ^ 64 - 1 or more is no number
abbrev pub as_number : Option ℕ → Option ℕ
as_number None = None
as_number (Some n) = if nat_lt n (COUNTS - 1) then Some n else None

-- The number that a wire value stands for near a reference: none if the format has none, or if no number is near.
abbrev pub number_near : Format → Kind → (wire reference : ℕ) → Option ℕ
number_near Plain Ordered wire reference = as_number (near 16 wire reference)
number_near Plain Unordered wire reference = None
number_near Interleaved k wire reference = as_number (near 32 wire reference)

-- What rises by one from a fragment of a message to the next: the index, or the fragment number, which is 0 if the chunk has B.
abbrev pub place_in : Format → (index : ℕ) → (begin : Bool) → (word : ℕ) → ℕ
place_in Plain index begin word = index
place_in Interleaved index begin word = if begin then 0 else word

-- Whether a message begins with the chunk: it has B or, under I-DATA, the fragment number 0.
abbrev pub begins_in : Format → (begin : Bool) → (word : ℕ) → Bool
begins_in Plain begin word = begin
begins_in Interleaved begin word = begin || (word == 0)

-- the payload id that a message's first chunk says: under I-DATA only a chunk with B has one
abbrev pub payload_in : Format → (begin : Bool) → (word : ℕ) → ℕ
payload_in Plain begin word = word
payload_in Interleaved begin word = if begin then word else 0

-- ---- what a FORWARD lists and lets go

-- the chunk of a FORWARD: a FORWARD-TSN or an I-FORWARD-TSN
abbrev pub forward_chunk : Format → ForwardMeaning → ChunkMeaning
forward_chunk Plain x = ForwardTsn x
forward_chunk Interleaved x = IForwardTsn x

-- the number lies below one past the largest number skipped
abbrev pub is_skipped : Option ℕ → (skip : ℕ) → Bool
is_skipped None skip = false
is_skipped (Some n) skip = nat_lt n skip

-- Whether a FORWARD passes an unordered chunk, which goes if its message isn't whole: under DATA by its index, under I-DATA by its number.
abbrev pub lets_go : Format → (index : ℕ) → (number : Option ℕ) → (jump skip : ℕ) → Bool
lets_go Plain index number jump skip = nat_le index jump
lets_go Interleaved index number jump skip = is_skipped number skip
