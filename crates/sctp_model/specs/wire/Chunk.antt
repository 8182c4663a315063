-- What chunks say, as plain numbers and lists (RFC 9260, 3.2 and 3.3; RFC 3758, 3.2; RFC 8260, 2).
use Rattle.std.specs.Prelude.{ℕ, ◌+◌, ◌-◌, ◌*◌, ◌/◌, Bool, List, length}

-- A fragment of user data with its place (RFC 9260, 3.3.1; RFC 8260, 2.1). The number is that of its message in the stream (SSN or MID), the word what
-- follows it (payload protocol identifier or FSN).
pub record PieceMeaning : Type 0 where
  pub immediate : Bool
  pub unordered : Bool
  pub begin : Bool
  pub end : Bool
  pub tsn : ℕ
  pub stream : ℕ
  pub number : ℕ
  pub word : ℕ
  pub bytes : List ℕ

-- A gap block: the first and the last TSN of a run, as distances from the cumulative TSN (RFC 9260, 3.3.4).
pub record BlockMeaning : Type 0 where
  pub start : ℕ
  pub end : ℕ

-- What a receiver has seen: all up to the cumulative TSN, the blocks, and what arrived more than once (RFC 9260, 3.3.4).
pub record SackMeaning : Type 0 where
  pub cumulative : ℕ
  pub rwnd : ℕ
  pub blocks : List BlockMeaning
  pub duplicates : List ℕ

-- How an endpoint offers to open an association, in INIT and in INIT ACK (RFC 9260, 3.3.2 and 3.3.3): its tag, its receiver window in bytes, how many
-- streams it sends on and how many it takes, its first TSN, and the bytes of its list of parameters.
pub record InitMeaning : Type 0 where
  pub tag : ℕ
  pub rwnd : ℕ
  pub outbound : ℕ
  pub inbound : ℕ
  pub tsn : ℕ
  pub parameters : List ℕ

-- The largest number given up of a stream's ordered or unordered messages (RFC 3758, 3.2; RFC 8260, 2.3.1).
pub record SkipMeaning : Type 0 where
  pub stream : ℕ
  pub unordered : Bool
  pub number : ℕ

-- A sender's point: its peer waits for nothing up to this TSN, nor for the messages up to these numbers (RFC 3758, 3.2; RFC 8260, 2.3.1).
pub record ForwardMeaning : Type 0 where
  pub cumulative : ℕ
  pub skips : List SkipMeaning

-- A chunk. Parameters and causes are the bytes of their list; `reflected` is the flag T: the packet has the tag that was received, not the receiver's own.
pub data ChunkMeaning : Type 0 where
  -- user data, by SSN (RFC 9260, 3.3.1) and by MID (RFC 8260, 2.1)
  Data : (piece : PieceMeaning) → ChunkMeaning
  IData : (piece : PieceMeaning) → ChunkMeaning
  -- the opening (RFC 9260, 3.3.2 and 3.3.3)
  Init : (offer : InitMeaning) → ChunkMeaning
  InitAck : (offer : InitMeaning) → ChunkMeaning
  -- what was seen (3.3.4)
  Sack : (seen : SackMeaning) → ChunkMeaning
  -- asks for these bytes again, and the answer (3.3.5 and 3.3.6)
  Heartbeat : (info : List ℕ) → ChunkMeaning
  HeartbeatAck : (info : List ℕ) → ChunkMeaning
  -- the association is over (3.3.7)
  Abort : (reflected : Bool) → (causes : List ℕ) → ChunkMeaning
  -- no more is sent, and all up to this TSN was seen (3.3.8); the answer (3.3.9)
  Shutdown : (seen : ℕ) → ChunkMeaning
  ShutdownAck : ChunkMeaning
  -- what was wrong (3.3.10)
  Error : (causes : List ℕ) → ChunkMeaning
  -- the listener's cookie is returned, and is accepted (3.3.11 and 3.3.12)
  CookieEcho : (cookie : List ℕ) → ChunkMeaning
  CookieAck : ChunkMeaning
  -- the answer to SHUTDOWN ACK (3.3.13)
  ShutdownComplete : (reflected : Bool) → ChunkMeaning
  -- what was given up, by SSN (RFC 3758, 3.2) and by MID (RFC 8260, 2.3.1)
  ForwardTsn : (point : ForwardMeaning) → ChunkMeaning
  IForwardTsn : (point : ForwardMeaning) → ChunkMeaning
  -- a type that has no case above: all of its flags, and its value (RFC 9260, 3.2)
  Unknown : (kind flags : ℕ) → (value : List ℕ) → ChunkMeaning

-- ---- types and sizes

-- the type's number (RFC 9260, 3.2; RFC 3758, 3.2; RFC 8260, 2.1 and 2.3.1)
abbrev pub kind_of : ChunkMeaning → ℕ
kind_of (Data p) = 0
kind_of (Init i) = 1
kind_of (InitAck i) = 2
kind_of (Sack s) = 3
kind_of (Heartbeat info) = 4
kind_of (HeartbeatAck info) = 5
kind_of (Abort reflected causes) = 6
kind_of (Shutdown cumulative) = 7
kind_of ShutdownAck = 8
kind_of (Error causes) = 9
kind_of (CookieEcho cookie) = 10
kind_of CookieAck = 11
kind_of (ShutdownComplete reflected) = 14
kind_of (IData p) = 64
kind_of (ForwardTsn f) = 192
kind_of (IForwardTsn f) = 194
kind_of (Unknown kind flags value) = kind

-- the length field: header and value in bytes, without the padding after them (RFC 9260, 3.2)
abbrev pub chunk_length : ChunkMeaning → ℕ
chunk_length (Data p) = 16 + length p.bytes
chunk_length (Init i) = 20 + length i.parameters
chunk_length (InitAck i) = 20 + length i.parameters
chunk_length (Sack s) = 16 + 4 * (length s.blocks + length s.duplicates)
chunk_length (Heartbeat info) = 4 + length info
chunk_length (HeartbeatAck info) = 4 + length info
chunk_length (Abort reflected causes) = 4 + length causes
chunk_length (Shutdown cumulative) = 8
chunk_length ShutdownAck = 4
chunk_length (Error causes) = 4 + length causes
chunk_length (CookieEcho cookie) = 4 + length cookie
chunk_length CookieAck = 4
chunk_length (ShutdownComplete reflected) = 4
chunk_length (IData p) = 20 + length p.bytes
chunk_length (ForwardTsn f) = 8 + 4 * length f.skips
chunk_length (IForwardTsn f) = 8 + 8 * length f.skips
chunk_length (Unknown kind flags value) = 4 + length value

-- a length filled up to a multiple of 4 (RFC 9260, 3.2)
abbrev pub padded : ℕ → ℕ
padded n = (n + 3) / 4 * 4

-- how many bytes of padding follow a chunk, a parameter or a cause of this length
abbrev pub padding_after : ℕ → ℕ
padding_after n = padded n - n

-- The one size of a chunk: its header and value, padded.
abbrev pub size_of_chunk : ChunkMeaning → ℕ
size_of_chunk m = padded (chunk_length m)
