-- Which chunks are written at once, header and numbers in one piece.
use Rattle.std.specs.Prelude.{ℕ, Bool, true, false, List, ◌++◌, length}
use Rattle.sctp_model.specs.wire.Chunk.{PieceMeaning, SackMeaning, ChunkMeaning, Data, IData, Sack, chunk_length}
use Rattle.sctp_model.specs.numbers.Numbers.{u16_bytes, u32_bytes}
use Rattle.sctp_wire.specs.declared.codes.TheConstants.{DATA, I_DATA, SACK}
use Rattle.sctp_wire.specs.chunks.Piece.{data_flags}
use Rattle.sctp_wire.specs.Reads.{header}

-- those that packets hold again and again: data, and what was seen
abbrev pub is_at_once : ChunkMeaning → Bool
is_at_once (Data p) = true
is_at_once (IData p) = true
is_at_once (Sack s) = true
is_at_once m = false

-- a DATA in front of its data
abbrev pub data_head : PieceMeaning → List ℕ
data_head p =
    header DATA (data_flags p) (chunk_length (Data p))
    ++ (u32_bytes p.tsn ++ (u16_bytes p.stream ++ (u16_bytes p.number ++ u32_bytes p.word)))

-- an I-DATA in front of its data, its reserved bits zero
abbrev pub i_data_head : PieceMeaning → List ℕ
i_data_head p =
    header I_DATA (data_flags p) (chunk_length (IData p))
    ++ (u32_bytes p.tsn ++ (u16_bytes p.stream ++ (u16_bytes 0 ++ (u32_bytes p.number ++ u32_bytes p.word))))

-- a SACK in front of its lists
abbrev pub sack_head : SackMeaning → List ℕ
sack_head s =
    header SACK 0 (chunk_length (Sack s))
    ++ (u32_bytes s.cumulative ++ (u32_bytes s.rwnd ++ (u16_bytes (length s.blocks) ++ u16_bytes (length s.duplicates))))
