-- Sizes of packets, in bytes (RFC 9260, 3).
use Rattle.std.specs.Prelude.{ℕ, ◌+◌, List, [], ◌∷◌}
use Rattle.sctp_model.specs.wire.Chunk.{ChunkMeaning, size_of_chunk}

-- the common header: ports, verification tag, checksum (RFC 9260, 3.1)
abbrev pub HEADER_ROOM : ℕ
HEADER_ROOM = 12

-- the bytes of chunks, padded
abbrev pub size_of_chunks : List ChunkMeaning → ℕ
size_of_chunks [] = 0
size_of_chunks (c ∷ cs) = size_of_chunk c + size_of_chunks cs

-- a packet of these chunks: the header, and the chunks, padded
abbrev pub size_of_packet : List ChunkMeaning → ℕ
size_of_packet cs = HEADER_ROOM + size_of_chunks cs

-- A packet: its ports, its verification tag and its chunks (RFC 9260, 3 and 3.1).
pub record Packet : Type 0 where
  pub source : ℕ
  pub destination : ℕ
  pub tag : ℕ
  pub chunks : List ChunkMeaning
