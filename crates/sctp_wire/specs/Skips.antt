-- The entries of a FORWARD-TSN and of an I-FORWARD-TSN as bytes (RFC 3758, 3.2; RFC 8260, 2.3.1).
use Rattle.std.specs.Prelude.{◌≡◌, ℕ, zero, suc, ◌+◌, ◌*◌, ◌/◌, ◌%◌, ◌<◌, ◌^◌, Bool, true, false, if◌then◌else◌, ◌==◌, ◌&&◌, nat_lt, List, [], ◌∷◌, ◌++◌, length, drop}
use Rattle.sctp_model.specs.wire.Chunk.{SkipMeaning}
use Rattle.sctp_model.specs.numbers.Numbers.{u16_bytes, u32_bytes, u16_at, u32_at}
use Rattle.sctp_wire.specs.declared.skips.SkipForm.{SkipForm}
use Rattle.sctp_wire.specs.declared.skips.SkipForm.TheVariants.{Narrow, Wide}
use Rattle.sctp_wire.specs.Items.{items_in}

-- how many bytes an entry takes
abbrev pub skip_size : SkipForm → ℕ
skip_size Narrow = 4
skip_size Wide = 8

-- An entry: stream and SSN; or stream, 15 reserved bits and U, and MID.
abbrev pub skip_laid : SkipForm → (reserved : ℕ) → SkipMeaning → List ℕ
skip_laid Narrow reserved s = u16_bytes s.stream ++ u16_bytes s.number
skip_laid Wide reserved s =
    u16_bytes s.stream ++ (u16_bytes (2 * reserved + (if s.unordered then 1 else 0)) ++ u32_bytes s.number)

-- an entry as it is written: the reserved bits are zero
abbrev pub skip_bytes : SkipForm → SkipMeaning → List ℕ
skip_bytes form s = skip_laid form 0 s

-- the entry in the first bytes
abbrev pub skip_at : SkipForm → List ℕ → SkipMeaning
skip_at Narrow bytes = record { stream = u16_at bytes; unordered = false; number = u16_at (drop 2 bytes) }
skip_at Wide bytes =
    record { stream = u16_at bytes; unordered = u16_at (drop 2 bytes) % 2 == 1; number = u32_at (drop 4 bytes) }

-- an entry's fields are within their bits; FORWARD-TSN has none of unordered messages
abbrev pub IsSkip : SkipForm → SkipMeaning → Type 0
IsSkip Narrow s = (s.stream < 2 ^ 16) × (s.number < 2 ^ 16) × (s.unordered ≡ false)
IsSkip Wide s = (s.stream < 2 ^ 16) × (s.number < 2 ^ 32)

-- The bytes are these entries, with any value in the reserved bits.
abbrev pub ReadsSkips : SkipForm → List ℕ → List SkipMeaning → Type 0
ReadsSkips form bytes [] = bytes ≡ []
ReadsSkips form bytes (s ∷ ss) =
    (reserved : ℕ) × ((rest : List ℕ) × ((reserved < 2 ^ 15) × (bytes ≡ skip_laid form reserved s ++ rest) × ReadsSkips form rest ss))

-- the entries that bytes of whole entries hold
unfoldable pub skips_in : SkipForm → List ℕ → List SkipMeaning
skips_in form bytes = items_in (skip_at form) (skip_size form) (length bytes / skip_size form) bytes

-- the reserved bits of so many wide entries are zero
abbrev pub zero_within : ℕ → List ℕ → Bool
zero_within zero bytes = true
zero_within (suc count) bytes = nat_lt (u16_at (drop 2 bytes)) 2 && zero_within count (drop 8 bytes)

-- the reserved bits of all entries are zero; those of FORWARD-TSN have none
unfoldable pub are_reserved_zero : SkipForm → List ℕ → Bool
are_reserved_zero Narrow bytes = true
are_reserved_zero Wide bytes = zero_within (length bytes / 8) bytes

-- What a list of entries shows: the entries, and whether their reserved bits are zero.
pub record SkipList : Type 0 where
  pub skips : List SkipMeaning
  pub plain : Bool

-- the list that bytes of whole entries are
abbrev pub skip_list : SkipForm → List ℕ → SkipList
skip_list form bytes = record { skips = skips_in form bytes; plain = are_reserved_zero form bytes }
