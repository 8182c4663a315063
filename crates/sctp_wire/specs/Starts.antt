-- What a list of chunks starts with.
use Rattle.std.specs.Prelude.{Bool, true, false, List, ◌∷◌, Option, Some, None}
use Rattle.sctp_model.specs.wire.Chunk.{PieceMeaning, SackMeaning, ChunkMeaning, Data, IData, Init, Sack, Abort, ShutdownComplete}

-- the piece of the first chunk, where this is a DATA
abbrev pub first_data : List ChunkMeaning → Option PieceMeaning
first_data (Data p ∷ ms) = Some p
first_data ms = None

-- the piece of the first chunk, where this is an I-DATA
abbrev pub first_i_data : List ChunkMeaning → Option PieceMeaning
first_i_data (IData p ∷ ms) = Some p
first_i_data ms = None

-- what the first chunk says, where this is a SACK
abbrev pub first_sack : List ChunkMeaning → Option SackMeaning
first_sack (Sack s ∷ ms) = Some s
first_sack ms = None

-- The first chunk is an INIT.
abbrev pub starts_with_init : List ChunkMeaning → Bool
starts_with_init (Init offer ∷ ms) = true
starts_with_init ms = false

-- The first chunk is an ABORT or a SHUTDOWN COMPLETE with the flag T (RFC 9260, 8.5.1).
abbrev pub starts_reflected : List ChunkMeaning → Bool
starts_reflected (Abort reflected causes ∷ ms) = reflected
starts_reflected (ShutdownComplete reflected ∷ ms) = reflected
starts_reflected ms = false
