-- RE-CONFIG: a chunk of parameters that request the reset of streams, and respond to that (RFC 6525, 3 and 4). It is read as a chunk of an unknown type,
-- and an endpoint that hasn't agreed on it treats it as one.
use Rattle.std.specs.Prelude.{ℕ, ◌+◌, ◌*◌, ◌==◌, nat_le, Bool, ◌&&◌, ◌||◌, List, [], ◌∷◌, ◌++◌, length, map, drop}
use Rattle.sctp_model.specs.numbers.Lists.{joined}
use Rattle.sctp_model.specs.numbers.Numbers.{u16_bytes, u32_bytes, u32_at}
use Rattle.sctp_model.specs.wire.Chunk.{ChunkMeaning, Unknown}
use Rattle.sctp_model.specs.wire.Typed.{Typed, written_typed}

-- the type of the chunk (3.1)
abbrev pub RECONFIG : ℕ
RECONFIG = 130

-- the types of its parameters: Outgoing SSN Reset Request (4.1)
abbrev pub OUTGOING_RESET : ℕ
OUTGOING_RESET = 13

-- Incoming SSN Reset Request (4.2)
abbrev pub INCOMING_RESET : ℕ
INCOMING_RESET = 14

-- SSN/TSN Reset Request (4.3)
abbrev pub TSN_RESET : ℕ
TSN_RESET = 15

-- Re-configuration Response (4.4)
abbrev pub RECONFIG_RESPONSE : ℕ
RECONFIG_RESPONSE = 16

-- Add Outgoing and Add Incoming Streams Request (4.5 and 4.6)
abbrev pub ADD_OUTGOING : ℕ
ADD_OUTGOING = 17

-- the latter
abbrev pub ADD_INCOMING : ℕ
ADD_INCOMING = 18

-- the chunk of these parameters
abbrev pub reconfig_chunk : List Typed → ChunkMeaning
reconfig_chunk items = Unknown RECONFIG 0 (written_typed items)

-- ---- a request to reset outgoing streams

-- What an Outgoing SSN Reset Request says (4.1): its sequence number, the sender's last assigned TSN, and its streams, all if none is listed.
pub record ResetMeaning : Type 0 where
  pub number : ℕ
  pub last : ℕ
  pub streams : List ℕ

-- its parameter; `answered` is the sequence number of the peer's last request (4.1)
abbrev pub reset_item : (answered : ℕ) → ResetMeaning → Typed
reset_item answered m = record {
  kind = OUTGOING_RESET;
  value = u32_bytes m.number ++ (u32_bytes answered ++ (u32_bytes m.last ++ joined (map u16_bytes m.streams)));
}

-- the numbers of 16 bits that bytes are
abbrev pub u16s_in : List ℕ → List ℕ
u16s_in [] = []
u16s_in (a ∷ []) = []
u16s_in (a ∷ b ∷ rest) = (a * 256 + b) ∷ u16s_in rest

-- what such a parameter says
abbrev pub reset_read : Typed → ResetMeaning
reset_read x = record { number = u32_at x.value; last = u32_at (drop 8 x.value); streams = u16s_in (drop 12 x.value) }

-- a parameter of this type, with a value of this many bytes at least
abbrev pub is_parameter : (kind least : ℕ) → Typed → Bool
is_parameter kind least x = (x.kind == kind) && nat_le least (length x.value)

-- the requests that are always denied; each begins with its sequence number
abbrev pub is_other_request : Typed → Bool
is_other_request x =
    is_parameter INCOMING_RESET 4 x || (is_parameter TSN_RESET 4 x || (is_parameter ADD_OUTGOING 8 x || is_parameter ADD_INCOMING 8 x))

-- ---- the response

-- The result of a request (4.4).
pub data ResetResult : Type 0 where
  -- it was performed; it is denied; one of its streams doesn't exist; its sequence number isn't the next one; not all that it waits for has arrived, and it
  -- is to be retried
  Performed Denied WrongStream BadNumber InProgress : ResetResult

-- its code
abbrev pub result_code : ResetResult → ℕ
result_code Performed = 1
result_code Denied = 2
result_code WrongStream = 3
result_code BadNumber = 5
result_code InProgress = 6

-- the response to the request with this number
abbrev pub response_item : (number : ℕ) → ResetResult → Typed
response_item number a = record { kind = RECONFIG_RESPONSE; value = u32_bytes number ++ u32_bytes (result_code a) }

-- success: nothing to do, or performed
abbrev pub is_done_code : ℕ → Bool
is_done_code code = (code == 0) || (code == 1)

-- in progress: so another request is (4), or this one (6)
abbrev pub is_progress_code : ℕ → Bool
is_progress_code code = (code == 4) || (code == 6)

-- its sequence number isn't the one that is expected
abbrev pub is_number_code : ℕ → Bool
is_number_code code = code == 5
