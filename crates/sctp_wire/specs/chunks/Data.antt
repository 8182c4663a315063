-- DATA: TSN, stream, SSN, payload protocol identifier, data (RFC 9260, 3.3.1).
use Rattle.std.specs.Prelude.{ℕ, ◌<◌, ◌^◌, Bool, nat_le, List, ◌++◌, length, drop}
use Rattle.sctp_model.specs.wire.Chunk.{PieceMeaning}
use Rattle.sctp_model.specs.numbers.Numbers.{u16_bytes, u32_bytes, u16_at, u32_at}
use Rattle.sctp_wire.specs.declared.codes.TheConstants.{IMMEDIATE, UNORDERED, BEGIN, END}
use Rattle.sctp_wire.specs.chunks.Flags.{has_flag}

-- the value, field behind field
abbrev pub data_value : PieceMeaning → List ℕ
data_value p = u32_bytes p.tsn ++ (u16_bytes p.stream ++ (u16_bytes p.number ++ (u32_bytes p.word ++ p.bytes)))

-- the values that the layout accepts
abbrev pub is_data_value : List ℕ → Bool
is_data_value value = nat_le 12 (length value)

-- the fields are within their bits
pub record IsDataPiece (p : PieceMeaning) : Type 0 where
  pub tsn : p.tsn < 2 ^ 32
  pub stream : p.stream < 2 ^ 16
  pub number : p.number < 2 ^ 16
  pub word : p.word < 2 ^ 32

-- the fields of a value
unfoldable pub data_at : ℕ → List ℕ → PieceMeaning
data_at flags value = record {
  immediate = has_flag flags IMMEDIATE;
  unordered = has_flag flags UNORDERED;
  begin = has_flag flags BEGIN;
  end = has_flag flags END;
  tsn = u32_at value;
  stream = u16_at (drop 4 value);
  number = u16_at (drop 6 value);
  word = u32_at (drop 8 value);
  bytes = drop 12 value;
}
