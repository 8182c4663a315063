-- The layout of each chunk, by its type: flags and value, and what fits them (RFC 9260, 3.2 and 3.3; RFC 3758, 3.2; RFC 8260, 2).
use Rattle.std.specs.Prelude.{◌≡◌, ℕ, ◌+◌, ◌*◌, ◌<◌, ◌^◌, Bool, true, false, if◌then◌else◌, ◌==◌, ◌||◌, List, [], ◌∷◌}
use Rattle.sctp_model.specs.wire.Chunk.{ChunkMeaning, Data, IData, Init, InitAck, Sack, Heartbeat, HeartbeatAck, Abort, Shutdown, ShutdownAck, Error, CookieEcho, CookieAck, ShutdownComplete, ForwardTsn, IForwardTsn, Unknown, chunk_length}
use Rattle.sctp_model.specs.wire.Typed.{are_typed, AreAsWritten}
use Rattle.sctp_wire.specs.declared.codes.TheConstants.{DATA, INIT, INIT_ACK, SACK, ABORT, SHUTDOWN, SHUTDOWN_ACK, ERROR, COOKIE_ACK, SHUTDOWN_COMPLETE, I_DATA, FORWARD_TSN, I_FORWARD_TSN, REFLECTED}
use Rattle.sctp_wire.specs.chunks.Flags.{flag}
use Rattle.sctp_wire.specs.chunks.Piece.{data_flags}
use Rattle.sctp_wire.specs.chunks.Data.{data_value, is_data_value, IsDataPiece}
use Rattle.sctp_wire.specs.chunks.IData.{i_data_laid, ReadsIData, is_i_data_value, IsIDataPiece}
use Rattle.sctp_wire.specs.chunks.Init.{init_value, has_init_numbers, has_init_list, IsInit}
use Rattle.sctp_wire.specs.chunks.Sack.{sack_value, is_sack_value, IsSack}
use Rattle.sctp_wire.specs.chunks.Heartbeat.{heartbeat_value}
use Rattle.sctp_wire.specs.chunks.Abort.{ReadsReflected, abort_value, has_abort_list}
use Rattle.sctp_wire.specs.chunks.Shutdown.{shutdown_value, is_shutdown_value, IsShutdown}
use Rattle.sctp_wire.specs.chunks.ShutdownAck.{is_shutdown_ack_value}
use Rattle.sctp_wire.specs.chunks.Error.{error_value, has_error_list}
use Rattle.sctp_wire.specs.chunks.CookieEcho.{cookie_echo_value}
use Rattle.sctp_wire.specs.chunks.CookieAck.{is_cookie_ack_value}
use Rattle.sctp_wire.specs.chunks.ShutdownComplete.{is_shutdown_complete_value}
use Rattle.sctp_wire.specs.chunks.ForwardTsn.{forward_tsn_value, ReadsForwardTsn, is_forward_tsn_value, IsForwardTsn}
use Rattle.sctp_wire.specs.chunks.IForwardTsn.{i_forward_tsn_value, ReadsIForwardTsn, is_i_forward_tsn_value, IsIForwardTsn}
use Rattle.sctp_wire.specs.chunks.Other.{IsUnknown}

-- one of these numbers
abbrev pub is_among : ℕ → List ℕ → Bool
is_among kind [] = false
is_among kind (k ∷ ks) = (kind == k) || is_among kind ks

-- ---- flags

-- the flags of a chunk, unused ones zero
abbrev pub flags_of : ChunkMeaning → ℕ
flags_of (Data p) = data_flags p
flags_of (IData p) = data_flags p
flags_of (Abort reflected causes) = flag REFLECTED reflected
flags_of (ShutdownComplete reflected) = flag REFLECTED reflected
flags_of (Unknown kind flags value) = flags
flags_of m = 0

-- The four high flags of DATA and I-DATA are ignored, the seven high ones of ABORT and SHUTDOWN COMPLETE, all of the other types; an
-- unknown type's are kept.
abbrev pub ReadsFlags : ℕ → ChunkMeaning → Type 0
ReadsFlags flags (Data p) = (unused : ℕ) × (flags ≡ 16 * unused + data_flags p)
ReadsFlags flags (IData p) = (unused : ℕ) × (flags ≡ 16 * unused + data_flags p)
ReadsFlags flags (Abort reflected causes) = ReadsReflected flags reflected
ReadsFlags flags (ShutdownComplete reflected) = ReadsReflected flags reflected
ReadsFlags flags (Unknown kind kept value) = flags ≡ kept
ReadsFlags flags m = Unit {0}

-- ---- values

-- what stands behind the header, reserved bits zero
abbrev pub value_of : ChunkMeaning → List ℕ
value_of (Data p) = data_value p
value_of (Init i) = init_value i
value_of (InitAck i) = init_value i
value_of (Sack s) = sack_value s
value_of (Heartbeat info) = heartbeat_value info
value_of (HeartbeatAck info) = heartbeat_value info
value_of (Abort reflected causes) = abort_value causes
value_of (Shutdown cumulative) = shutdown_value cumulative
value_of ShutdownAck = []
value_of (Error causes) = error_value causes
value_of (CookieEcho cookie) = cookie_echo_value cookie
value_of CookieAck = []
value_of (ShutdownComplete reflected) = []
value_of (IData p) = i_data_laid 0 p
value_of (ForwardTsn f) = forward_tsn_value f
value_of (IForwardTsn f) = i_forward_tsn_value f
value_of (Unknown kind flags value) = value

-- a value is that of the chunk, but for the reserved bits of I-DATA and I-FORWARD-TSN, which are ignored
abbrev pub ReadsValue : List ℕ → ChunkMeaning → Type 0
ReadsValue value (IData p) = ReadsIData value p
ReadsValue value (ForwardTsn f) = ReadsForwardTsn value f
ReadsValue value (IForwardTsn f) = ReadsIForwardTsn value f
ReadsValue value m = value ≡ value_of m

-- A value has the layout of its type; a type without a row here takes any value.
abbrev pub has_layout : ℕ → List ℕ → Bool
has_layout kind value =
    if kind == DATA then is_data_value value
    else if is_among kind (INIT ∷ INIT_ACK ∷ []) then has_init_numbers value
    else if kind == SACK then is_sack_value value
    else if kind == SHUTDOWN then is_shutdown_value value
    else if kind == SHUTDOWN_ACK then is_shutdown_ack_value value
    else if kind == COOKIE_ACK then is_cookie_ack_value value
    else if kind == SHUTDOWN_COMPLETE then is_shutdown_complete_value value
    else if kind == I_DATA then is_i_data_value value
    else if kind == FORWARD_TSN then is_forward_tsn_value value
    else if kind == I_FORWARD_TSN then is_i_forward_tsn_value value
    else true

-- What should be a list of parameters or causes in it is one.
abbrev pub has_list : ℕ → List ℕ → Bool
has_list kind value =
    if is_among kind (INIT ∷ INIT_ACK ∷ []) then has_init_list value
    else if kind == ABORT then has_abort_list value
    else if kind == ERROR then has_error_list value
    else true

-- ---- what fits

-- the fields are within their bits, and parameters and causes are lists
abbrev pub IsInRange : ChunkMeaning → Type 0
IsInRange (Data p) = IsDataPiece p
IsInRange (Init i) = IsInit i
IsInRange (InitAck i) = IsInit i
IsInRange (Sack s) = IsSack s
IsInRange (Abort reflected causes) = are_typed causes ≡ true
IsInRange (Shutdown cumulative) = IsShutdown cumulative
IsInRange (Error causes) = are_typed causes ≡ true
IsInRange (IData p) = IsIDataPiece p
IsInRange (ForwardTsn f) = IsForwardTsn f
IsInRange (IForwardTsn f) = IsIForwardTsn f
IsInRange (Unknown kind flags value) = IsUnknown kind flags
IsInRange m = Unit {0}

-- parameters and causes are lists as they are written: zero padding, and none behind the last item
abbrev pub IsPlain : ChunkMeaning → Type 0
IsPlain (Init i) = AreAsWritten i.parameters
IsPlain (InitAck i) = AreAsWritten i.parameters
IsPlain (Abort reflected causes) = AreAsWritten causes
IsPlain (Error causes) = AreAsWritten causes
IsPlain m = Unit {0}

-- What may be read: the fields and the length are within their bits.
pub record IsReadable (m : ChunkMeaning) : Type 0 where
  pub fields : IsInRange m
  pub length : chunk_length m < 2 ^ 16

-- What may be written: the fields and the length are within their bits, and lists are as they are written.
pub record Fits (m : ChunkMeaning) : Type 0 where
  pub fields : IsInRange m
  pub length : chunk_length m < 2 ^ 16
  pub plain : IsPlain m
