-- SACK: cumulative TSN, a_rwnd, how many blocks and duplicates, these blocks and duplicates (RFC 9260, 3.3.4).
use Rattle.std.specs.Prelude.{ℕ, ◌+◌, ◌*◌, ◌<◌, ◌^◌, Bool, ◌==◌, ◌&&◌, nat_le, List, ◌++◌, length, take, drop}
use Rattle.std.specs.List.{flat_map, AllByRecursion}
use Rattle.sctp_model.specs.wire.Chunk.{SackMeaning}
use Rattle.sctp_model.specs.numbers.Numbers.{u16_bytes, u32_bytes, u16_at, u32_at}
use Rattle.sctp_wire.specs.Items.{block_bytes, IsBlock, IsWord, blocks_in, words_in}

-- the value: the numbers, then the lists
abbrev pub sack_value : SackMeaning → List ℕ
sack_value s =
    u32_bytes s.cumulative ++ (u32_bytes s.rwnd ++ (u16_bytes (length s.blocks) ++ (u16_bytes (length s.duplicates)
    ++ (flat_map block_bytes s.blocks ++ flat_map u32_bytes s.duplicates))))

-- the values that the layout accepts: 12 bytes, and 4 for each block and duplicate
abbrev pub is_sack_value : List ℕ → Bool
is_sack_value value =
    nat_le 12 (length value) && (length value == 12 + 4 * (u16_at (drop 8 value) + u16_at (drop 10 value)))

-- the fields are within their bits
pub record IsSack (s : SackMeaning) : Type 0 where
  pub cumulative : s.cumulative < 2 ^ 32
  pub rwnd : s.rwnd < 2 ^ 32
  pub blocks : AllByRecursion IsBlock s.blocks
  pub duplicates : AllByRecursion IsWord s.duplicates

-- the fields of a value
unfoldable pub sack_at : List ℕ → SackMeaning
sack_at value = record {
  cumulative = u32_at value;
  rwnd = u32_at (drop 4 value);
  blocks = blocks_in (take (4 * u16_at (drop 8 value)) (drop 12 value));
  duplicates = words_in (drop (4 * u16_at (drop 8 value)) (drop 12 value));
}
