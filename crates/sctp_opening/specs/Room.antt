-- The size of a packet of one chunk.
use Rattle.std.specs.Prelude.{ℕ, ◌+◌}
use Rattle.sctp_model.specs.wire.Chunk.{padded}
use Rattle.sctp_model.specs.wire.Packet.{HEADER_ROOM}

-- The bytes of a packet whose one chunk has this length, header and value: the common header, and the chunk padded (RFC 9260, 3).
abbrev pub size_alone : (length : ℕ) → ℕ
size_alone length = HEADER_ROOM + (padded length + 0)
