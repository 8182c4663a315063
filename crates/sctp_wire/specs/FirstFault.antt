-- Why bytes are no list of chunks: whole chunks, and at the next one the first check that fails; or all are whole, and one is misplaced;
-- with the offset of that chunk's first byte (RFC 9260, 3.2).
use Rattle.std.specs.Prelude.{◌≡◌, ℕ, ◌<◌, ◌≤◌, ◌⊎◌, true, false, List, ◌++◌, length, drop, slice_index, slice_range, Some}
use Rattle.sctp_model.specs.wire.Chunk.{ChunkMeaning, padded}
use Rattle.sctp_model.specs.numbers.Numbers.{u16_at}
use Rattle.sctp_model.specs.wire.Places.{first_misplaced}
use Rattle.sctp_wire.specs.declared.fault.Reason.{Reason}
use Rattle.sctp_wire.specs.declared.fault.Reason.TheVariants as reason
use Rattle.sctp_wire.specs.declared.fault.WireFault.{WireFault}
use Rattle.sctp_wire.specs.declared.fault.WireFault.TheVariants.{Cut, LengthTooSmall, PaddingMissing, ChunkBody, ParameterLength, NotAlone}
use Rattle.sctp_wire.specs.Layouts.{has_layout, has_list}
use Rattle.sctp_wire.specs.Reads.{ReadsEach}

-- what a header's length field says
abbrev pub stated_length : List ℕ → ℕ
stated_length bytes = u16_at (drop 2 bytes)

-- a chunk's value, as its length field says
abbrev pub value_at : List ℕ → List ℕ
value_at bytes = slice_range bytes 4 (stated_length bytes)

-- a chunk begins: there is a header, and its length field covers it
abbrev pub HasHeader : List ℕ → Type 0
HasHeader bytes = (4 ≤ length bytes) × (4 ≤ stated_length bytes)

-- fewer bytes are left than a header takes, or than the length field says
abbrev pub IsCut : List ℕ → Type 0
IsCut bytes = ((0 < length bytes) × (length bytes < 4)) ⊎ (HasHeader bytes × (length bytes < stated_length bytes))

-- the length field doesn't cover the header
abbrev pub IsTooSmall : List ℕ → Type 0
IsTooSmall bytes = (4 ≤ length bytes) × (stated_length bytes < 4)

-- all but some of the padding is there
abbrev pub IsUnpadded : List ℕ → Type 0
IsUnpadded bytes = HasHeader bytes × (stated_length bytes ≤ length bytes) × (length bytes < padded (stated_length bytes))

-- all is there, and isn't of its type's layout
abbrev pub IsMisshapen : List ℕ → Type 0
IsMisshapen bytes =
    HasHeader bytes × (padded (stated_length bytes) ≤ length bytes) × (has_layout (slice_index bytes 0) (value_at bytes) ≡ false)

-- all is there and of the layout, and the parameters or causes aren't a list
abbrev pub IsMislisted : List ℕ → Type 0
IsMislisted bytes =
    HasHeader bytes × (padded (stated_length bytes) ≤ length bytes) × (has_layout (slice_index bytes 0) (value_at bytes) ≡ true)
    × (has_list (slice_index bytes 0) (value_at bytes) ≡ false)

-- what is wrong with the chunk that bytes begin with
abbrev pub IsWrong : Reason → List ℕ → Type 0
IsWrong reason.IsCut bytes = IsCut bytes
IsWrong reason.HasShortLength bytes = IsTooSmall bytes
IsWrong reason.LacksPadding bytes = IsUnpadded bytes
IsWrong reason.HasOtherBody bytes = IsMisshapen bytes
IsWrong reason.HasNoList bytes = IsMislisted bytes

-- after whole chunks this is wrong with the next one, which begins at the offset
pub record FaultsAt (why : Reason) (bytes : List ℕ) (offset : ℕ) : Type 0 where
  pub whole : List ℕ
  pub rest : List ℕ
  pub chunks : List ChunkMeaning
  pub joined : bytes ≡ whole ++ rest
  pub reads : ReadsEach whole chunks
  pub at : offset ≡ length whole
  pub wrong : IsWrong why rest

-- all chunks are whole, and the first misplaced one begins at the offset
pub record MisplacedAt (bytes : List ℕ) (offset : ℕ) : Type 0 where
  pub chunks : List ChunkMeaning
  pub reads : ReadsEach bytes chunks
  pub misplaced : first_misplaced chunks ≡ Some offset

-- The fault of the bytes.
abbrev pub Faults : List ℕ → WireFault → Type 0
Faults bytes (Cut offset) = FaultsAt reason.IsCut bytes offset
Faults bytes (LengthTooSmall offset) = FaultsAt reason.HasShortLength bytes offset
Faults bytes (PaddingMissing offset) = FaultsAt reason.LacksPadding bytes offset
Faults bytes (ChunkBody offset) = FaultsAt reason.HasOtherBody bytes offset
Faults bytes (ParameterLength offset) = FaultsAt reason.HasNoList bytes offset
Faults bytes (NotAlone offset) = MisplacedAt bytes offset
