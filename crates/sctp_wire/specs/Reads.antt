-- Which bytes read as which chunks (RFC 9260, 3.2): each chunk's layout in turn, with any value in unused flags, reserved bits and
-- padding, and each chunk where it may stand.
use Rattle.std.specs.Prelude.{◌≡◌, ℕ, List, [], ◌∷◌, ◌++◌, length}
use Rattle.sctp_model.specs.wire.Chunk.{ChunkMeaning, kind_of, chunk_length, padding_after}
use Rattle.sctp_model.specs.numbers.Numbers.{u16_bytes}
use Rattle.sctp_model.specs.wire.Places.{ArePlaced}
use Rattle.sctp_wire.specs.Layouts.{ReadsFlags, ReadsValue, IsReadable}

-- a chunk's header: type, flags, length (RFC 9260, 3.2)
abbrev pub header : ℕ → ℕ → ℕ → List ℕ
header kind flags size = kind ∷ flags ∷ u16_bytes size

-- The bytes are this chunk: header, value, and padding of any value up to a multiple of 4.
pub record ReadsChunk (bytes : List ℕ) (m : ChunkMeaning) : Type 0 where
  pub flags : ℕ
  pub value : List ℕ
  pub padding : List ℕ
  pub layout : bytes ≡ header (kind_of m) flags (chunk_length m) ++ (value ++ padding)
  pub flagged : ReadsFlags flags m
  pub valued : ReadsValue value m
  pub filled : length padding ≡ padding_after (chunk_length m)
  pub readable : IsReadable m

-- The bytes are these chunks, one after another.
abbrev pub ReadsEach : List ℕ → List ChunkMeaning → Type 0
ReadsEach bytes [] = bytes ≡ []
ReadsEach bytes (m ∷ ms) = (chunk rest : List ℕ) × (bytes ≡ chunk ++ rest) × ReadsChunk chunk m × ReadsEach rest ms

-- The bytes are these chunks, each where it may stand.
pub record Reads (bytes : List ℕ) (ms : List ChunkMeaning) : Type 0 where
  pub each : ReadsEach bytes ms
  pub placed : ArePlaced ms
