-- How chunks are read, from left to right, as a function: what `Chunks` shows as the list still to come. `Reads` and `Faults` say what
-- it is.
use Rattle.std.specs.Prelude.{ℕ, zero, suc, ◌+◌, ◌-◌, if◌then◌else◌, ◌==◌, nat_lt, List, [], ◌∷◌, length, drop, slice_index, Result, Ok, Err, IsOk}
use Rattle.sctp_model.specs.wire.Chunk.{ChunkMeaning, Data, IData, Init, InitAck, Sack, Heartbeat, HeartbeatAck, Abort, Shutdown, ShutdownAck, Error, CookieEcho, CookieAck, ShutdownComplete, ForwardTsn, IForwardTsn, Unknown, padded}
use Rattle.sctp_model.specs.numbers.Numbers.{u32_at}
use Rattle.sctp_wire.specs.declared.codes.TheConstants.{DATA, INIT, INIT_ACK, SACK, HEARTBEAT, HEARTBEAT_ACK, ABORT, SHUTDOWN, SHUTDOWN_ACK, ERROR, COOKIE_ECHO, COOKIE_ACK, SHUTDOWN_COMPLETE, I_DATA, FORWARD_TSN, I_FORWARD_TSN, REFLECTED}
use Rattle.sctp_wire.specs.declared.fault.Reason.{Reason}
use Rattle.sctp_wire.specs.declared.fault.Reason.TheVariants.{IsCut, HasShortLength, LacksPadding, HasOtherBody, HasNoList}
use Rattle.sctp_wire.specs.chunks.Flags.{has_flag}
use Rattle.sctp_wire.specs.chunks.Data.{data_at}
use Rattle.sctp_wire.specs.chunks.IData.{i_data_at}
use Rattle.sctp_wire.specs.chunks.Init.{init_at}
use Rattle.sctp_wire.specs.chunks.Sack.{sack_at}
use Rattle.sctp_wire.specs.chunks.ForwardTsn.{forward_tsn_at}
use Rattle.sctp_wire.specs.chunks.IForwardTsn.{i_forward_tsn_at}
use Rattle.sctp_wire.specs.Layouts.{has_layout, has_list}
use Rattle.sctp_wire.specs.FirstFault.{stated_length, value_at}

-- the chunk of a type, its flags and its value
unfoldable pub body_at : ℕ → ℕ → List ℕ → ChunkMeaning
body_at kind flags value =
    if kind == DATA then Data (data_at flags value)
    else if kind == INIT then Init (init_at value)
    else if kind == INIT_ACK then InitAck (init_at value)
    else if kind == SACK then Sack (sack_at value)
    else if kind == HEARTBEAT then Heartbeat value
    else if kind == HEARTBEAT_ACK then HeartbeatAck value
    else if kind == ABORT then Abort (has_flag flags REFLECTED) value
    else if kind == SHUTDOWN then Shutdown (u32_at value)
    else if kind == SHUTDOWN_ACK then ShutdownAck
    else if kind == ERROR then Error value
    else if kind == COOKIE_ECHO then CookieEcho value
    else if kind == COOKIE_ACK then CookieAck
    else if kind == SHUTDOWN_COMPLETE then ShutdownComplete (has_flag flags REFLECTED)
    else if kind == I_DATA then IData (i_data_at flags value)
    else if kind == FORWARD_TSN then ForwardTsn (forward_tsn_at value)
    else if kind == I_FORWARD_TSN then IForwardTsn (i_forward_tsn_at value)
    else Unknown kind flags value

-- the length field of the first chunk, where the header, the length and the padding are right
unfoldable pub frame_at : List ℕ → Result ℕ Reason
frame_at bytes =
    if nat_lt (length bytes) 4 then Err IsCut
    else if nat_lt (stated_length bytes) 4 then Err HasShortLength
    else if nat_lt (length bytes) (stated_length bytes) then Err IsCut
    else if nat_lt (length bytes) (padded (stated_length bytes)) then Err LacksPadding
    else Ok (stated_length bytes)

-- the first chunk and what follows it, where its frame is right
abbrev pub framed : List ℕ → Result ℕ Reason → Result (ChunkMeaning × List ℕ) Reason
framed bytes (Ok size) =
    if has_layout (slice_index bytes 0) (value_at bytes) then (
    if has_list (slice_index bytes 0) (value_at bytes)
    then Ok (body_at (slice_index bytes 0) (slice_index bytes 1) (value_at bytes), drop (padded size) bytes)
    else Err HasNoList
    )
    else Err HasOtherBody
framed bytes (Err why) = Err why

-- the first chunk, and what follows it
unfoldable pub chunk_at : List ℕ → Result (ChunkMeaning × List ℕ) Reason
chunk_at bytes = framed bytes (frame_at bytes)

-- what is wrong with a chunk, and where it begins
pub record FaultPlace : Type 0 where
  pub why : Reason
  pub offset : ℕ

-- a chunk of this many bytes, and then what is read after it
abbrev pub onto : ℕ → ChunkMeaning → Result (List ChunkMeaning) FaultPlace → Result (List ChunkMeaning) FaultPlace
onto distance m (Ok ms) = Ok (m ∷ ms)
onto distance m (Err at) = Err (record at { offset = at.offset + distance })

-- a chunk, where there is one, and then what is read behind it
abbrev pub followed : ℕ → Result (ChunkMeaning × List ℕ) Reason → (List ℕ → Result (List ChunkMeaning) FaultPlace) → Result (List ChunkMeaning) FaultPlace
followed whole (Ok found) read = onto (whole - length found.1) found.0 (read found.1)
followed whole (Err why) read = Err (record { why = why; offset = 0 })

-- at most this many chunks
abbrev pub chunks_within : ℕ → List ℕ → Result (List ChunkMeaning) FaultPlace
chunks_within most [] = Ok []
chunks_within zero (b ∷ bytes) = Err (record { why = IsCut; offset = 0 })
chunks_within (suc most) (b ∷ bytes) =
    followed (length (b ∷ bytes)) (chunk_at (b ∷ bytes)) (λ rest. chunks_within most rest)

-- all of the bytes, each chunk by itself
unfoldable pub each_of : List ℕ → Result (List ChunkMeaning) FaultPlace
each_of bytes = chunks_within (length bytes) bytes

-- the bytes are whole chunks
abbrev pub AreChunks : List ℕ → Type 0
AreChunks bytes = IsOk (each_of bytes)

-- these chunks, none where a fault was found
abbrev pub chunks_or_none : Result (List ChunkMeaning) FaultPlace → List ChunkMeaning
chunks_or_none (Ok ms) = ms
chunks_or_none (Err at) = []

-- the chunks of bytes that are whole chunks
abbrev pub chunks_of : List ℕ → List ChunkMeaning
chunks_of bytes = chunks_or_none (each_of bytes)
