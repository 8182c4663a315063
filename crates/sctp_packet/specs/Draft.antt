-- A packet in the making.
use Rattle.std.specs.Prelude.{◌≡◌, ℕ, ◌+◌, ◌-◌, ◌<◌, ◌≤◌, min, Bool, true, false, nat_le, if◌then◌else◌, ◌==◌, List, ◌∷◌, [], ◌++◌, length, take, drop}
use Rattle.sctp_model.specs.wire.Chunk.{PieceMeaning, ChunkMeaning, Data, IData}
use Rattle.sctp_model.specs.wire.Packet.{Packet, HEADER_ROOM, size_of_packet}
use Rattle.sctp_wire.specs.Reading.{chunks_of}
use Rattle.sctp_wire.specs.Writes.{Writes}
use Rattle.sctp_packet.specs.PacketBytes.{header_bytes, IsHeader}

-- what a packet in the making is: the most bytes that it may have, its header, whether memory for all that it may have is reserved, and the chunks put
-- in so far
pub record Draft : Type 0 where
  pub limit : ℕ
  pub source : ℕ
  pub destination : ℕ
  pub tag : ℕ
  pub space : Bool
  pub chunks : List ChunkMeaning

-- the packet that it is so far
abbrev pub packet_of : Draft → Packet
packet_of d = record { source = d.source; destination = d.destination; tag = d.tag; chunks = d.chunks }

-- nothing put in yet
abbrev pub empty_draft : (limit source destination tag : ℕ) → Draft
empty_draft limit source destination tag = record { limit = limit; source = source; destination = destination; tag = tag; space = false; chunks = [] }

-- a header alone
abbrev pub bare : (source destination tag : ℕ) → Packet
bare source destination tag = record { source = source; destination = destination; tag = tag; chunks = [] }

-- these chunks more
abbrev pub with_chunks : Draft → List ChunkMeaning → Draft
with_chunks d ms = record d { chunks = d.chunks ++ ms }

-- the bytes that are left, where the header counts and the chunks are padded
abbrev pub room_in : Draft → ℕ
room_in d = d.limit - size_of_packet d.chunks

-- the same packet, with space for so many bytes more at most
abbrev pub narrowed : Draft → (room : ℕ) → Draft
narrowed d room = record d { limit = min d.limit (size_of_packet d.chunks + room) }

-- the packet stays within its limit with this chunk too
abbrev pub has_room : Draft → ChunkMeaning → Bool
has_room d m = nat_le (size_of_packet (d.chunks ++ m ∷ [])) d.limit

-- the same packet, whose memory is reserved, or counts as not reserved any more
abbrev pub with_space : Draft → (space : Bool) → Draft
with_space d space = record d { space = space }

-- the chunk of a piece: an I-DATA, or a DATA
abbrev pub piece_chunk : (interleaved : Bool) → PieceMeaning → ChunkMeaning
piece_chunk interleaved p = if interleaved then IData p else Data p

-- the draft after a chunk was put in, or not
abbrev pub after_try : Draft → ChunkMeaning → Bool → Draft
after_try d m put = if put then with_chunks d (m ∷ []) else d

-- the bytes, with a header in front where there were none
abbrev pub with_header : List ℕ → List ℕ → List ℕ
with_header header bytes = if length bytes == 0 then header else bytes

-- what is always so of the bytes kept: nothing, or the header with zero for the checksum and written chunks, within the limit
pub record IsDraft (limit : ℕ) (header bytes : List ℕ) : Type 0 where
  pub front : 0 < length bytes → take HEADER_ROOM bytes ≡ header
  pub writes : Writes (drop HEADER_ROOM bytes) (chunks_of (drop HEADER_ROOM bytes))
  pub within : HEADER_ROOM < length bytes → length bytes ≤ limit

-- the same of all that is kept: the header's fields are within their bits too, with the second chunk the memory for the whole packet was taken, and if
-- that is reserved, the header is there too
pub record IsKept (limit : ℕ) (p : Packet) (space : Bool) (bytes : List ℕ) (capacity : ℕ) : Type 0 where
  pub header : IsHeader p
  pub draft : IsDraft limit (header_bytes p.source p.destination p.tag 0) bytes
  pub room : 1 < length (chunks_of (drop HEADER_ROOM bytes)) → limit ≤ capacity
  pub begun : space ≡ true → 0 < length bytes
  pub whole : space ≡ true → limit ≤ capacity
