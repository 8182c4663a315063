-- How bytes tell their first chunk, and where a chunk may stand.
use Rattle.std.specs.Prelude.{◌≡◌, ℕ, ◌≤◌, Bool, true, ◌==◌, ◌||◌, ◌&&◌, nat_lt, if◌then◌else◌, List, [], ◌∷◌, length, slice_index, Option, Some, None}
use Rattle.sctp_model.specs.wire.Chunk.{ChunkMeaning}
use Rattle.sctp_wire.specs.declared.codes.TheConstants.{INIT, INIT_ACK, COOKIE_ECHO, SHUTDOWN_COMPLETE}
use Rattle.sctp_wire.specs.FirstFault.{value_at}
use Rattle.sctp_wire.specs.Layouts.{is_among, has_layout, has_list}
use Rattle.sctp_wire.specs.Reading.{body_at, AreChunks, chunks_of}

-- what a first chunk says, that is whole
abbrev pub first_of : List ℕ → ChunkMeaning
first_of bytes = body_at (slice_index bytes 0) (slice_index bytes 1) (value_at bytes)

-- Bytes that are chunks are a first one, whose value this is, and these others behind it.
pub record IsParted (bytes value others : List ℕ) : Type 0 where
  pub head : 4 ≤ length bytes
  pub laid : has_layout (slice_index bytes 0) value ≡ true
  pub list : has_list (slice_index bytes 0) value ≡ true
  pub listed : chunks_of bytes ≡ body_at (slice_index bytes 0) (slice_index bytes 1) value ∷ chunks_of others
  pub chunks : AreChunks others

-- the types that have a packet of their own
abbrev pub is_alone : ℕ → Bool
is_alone kind = is_among kind (INIT ∷ INIT_ACK ∷ SHUTDOWN_COMPLETE ∷ [])

-- A chunk of this type stands where it may not, with so many bytes of others before it and behind it.
abbrev pub is_misplaced : ℕ → (before : ℕ) → (behind : ℕ) → Bool
is_misplaced kind before behind =
    (is_alone kind && (nat_lt 0 before || nat_lt 0 behind)) || ((kind == COOKIE_ECHO) && nat_lt 0 before)

-- where the first misplaced one begins, with one chunk more
abbrev pub found_with : Option ℕ → ℕ → (before : ℕ) → (behind : ℕ) → Option ℕ
found_with (Some offset) kind before behind = Some offset
found_with None kind before behind = if is_misplaced kind before behind then Some before else None
