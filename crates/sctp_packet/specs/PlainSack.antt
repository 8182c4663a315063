-- A SACK without lists (RFC 9260, 3.3.4).
use Rattle.std.specs.Prelude.{ℕ, []}
use Rattle.sctp_model.specs.wire.Chunk.{ChunkMeaning, Sack}

-- it tells the cumulative TSN and the space left, and neither gap ack blocks nor duplicates
abbrev pub plain_sack : (cumulative rwnd : ℕ) → ChunkMeaning
plain_sack cumulative rwnd = Sack (record { cumulative = cumulative; rwnd = rwnd; blocks = []; duplicates = [] })
