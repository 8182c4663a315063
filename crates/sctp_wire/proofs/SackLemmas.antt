-- SACK's value is read in one way.
use Rattle.std.proofs.Common.{◌≡◌, ℕ, ◌+◌, ◌*◌, ◌<◌, ◌≤◌, ◌^◌, Bool, true, List, ◌++◌, length, take, drop, refl, arith, length-append, length-drop}
use Rattle.std.specs.Prelude.{◌&&◌}
use Rattle.std.specs.List.{flat_map}
use Rattle.std.proofs.lemmas.List.{drop-drop, take-append-drop, take_at, drop_at, length-take-le}
use Rattle.std.proofs.lemmas.Grind.{common_steps}
use Rattle.sctp_model.specs.wire.Chunk.{SackMeaning}
use Rattle.sctp_model.specs.numbers.Numbers.{u16_bytes, u32_bytes, u16_at, AreBytes}
use Rattle.sctp_wire.specs.Items.{block_bytes, blocks_in, words_in}
use Rattle.sctp_wire.specs.chunks.Sack.{sack_value, IsSack, is_sack_value, sack_at}
use Rattle.sctp_wire.proofs.NumberLemmas.{u16_at-bytes, u32_at-bytes, length-u16, length-u32, bytes-u16_at, bytes-u32_at, u32_at-lt, AreBytes-drop, AreBytes-take}
use Rattle.sctp_wire.proofs.ItemLemmas.{blocks_in-flat, flat-blocks_in, all-blocks_in, length-blocks_in, length-blocks, words_in-flat, flat-words_in, all-words_in, length-words_in, length-words}

drop-sack_4 : (s : SackMeaning) → drop 4 (sack_value s) ≡ u32_bytes s.rwnd ++ (u16_bytes (length s.blocks) ++ (u16_bytes (length s.duplicates) ++ (flat_map block_bytes s.blocks ++ flat_map u32_bytes s.duplicates)))
unfolding u32_bytes
drop-sack_4 s = refl

drop-sack_8 : (s : SackMeaning) → drop 8 (sack_value s) ≡ u16_bytes (length s.blocks) ++ (u16_bytes (length s.duplicates) ++ (flat_map block_bytes s.blocks ++ flat_map u32_bytes s.duplicates))
unfolding u32_bytes
drop-sack_8 s = refl

drop-sack_10 : (s : SackMeaning) → drop 10 (sack_value s) ≡ u16_bytes (length s.duplicates) ++ (flat_map block_bytes s.blocks ++ flat_map u32_bytes s.duplicates)
unfolding u32_bytes u16_bytes
drop-sack_10 s = refl

drop-sack_12 : (s : SackMeaning) → drop 12 (sack_value s) ≡ flat_map block_bytes s.blocks ++ flat_map u32_bytes s.duplicates
unfolding u32_bytes u16_bytes
drop-sack_12 s = refl

pub length-sack_value : (s : SackMeaning) → length (sack_value s) ≡ 12 + 4 * (length s.blocks + length s.duplicates)
length-sack_value s =
    let lists = flat_map block_bytes s.blocks ++ flat_map u32_bytes s.duplicates in
    let fourth = u16_bytes (length s.duplicates) ++ lists in
    let third = u16_bytes (length s.blocks) ++ fourth in
    omega (arith, length-append (u32_bytes s.cumulative) (u32_bytes s.rwnd ++ third), length-append (u32_bytes s.rwnd) third, length-append (u16_bytes (length s.blocks)) fourth, length-append (u16_bytes (length s.duplicates)) lists, length-append (flat_map block_bytes s.blocks) (flat_map u32_bytes s.duplicates), length-u32 s.cumulative, length-u32 s.rwnd, length-u16 (length s.blocks), length-u16 (length s.duplicates), length-blocks s.blocks, length-words s.duplicates)

both_true : (a b : Bool) → a ≡ true → b ≡ true → (a && b) ≡ true
both_true a b p q = cc

pub is_sack_value-value : (s : SackMeaning) → length s.blocks < 2 ^ 16 → length s.duplicates < 2 ^ 16 → is_sack_value (sack_value s) ≡ true
is_sack_value-value s blocks duplicates =
    rw (drop-sack_8 s, u16_at-bytes (length s.blocks) _ blocks, drop-sack_10 s, u16_at-bytes (length s.duplicates) _ duplicates, length-sack_value s) (grind (arith, common_steps))

pub sack_at-value : (s : SackMeaning) → length s.blocks < 2 ^ 16 → length s.duplicates < 2 ^ 16 → IsSack s → sack_at (sack_value s) ≡ s
unfolding sack_at
sack_at-value s blocks duplicates fits =
    let front = flat_map block_bytes s.blocks in
    let back = flat_map u32_bytes s.duplicates in
    rw (u32_at-bytes s.cumulative _ fits.cumulative, drop-sack_4 s, u32_at-bytes s.rwnd _ fits.rwnd, drop-sack_8 s, u16_at-bytes (length s.blocks) _ blocks, drop-sack_12 s, take_at front back (4 * length s.blocks) (length-blocks s.blocks), drop_at front back (4 * length s.blocks) (length-blocks s.blocks), blocks_in-flat s.blocks fits.blocks, words_in-flat s.duplicates fits.duplicates) refl

-- what the test of a SACK's length says
pub record HasCounts (value : List ℕ) : Type 0 where
  pub long : 12 ≤ length value
  pub filled : length value ≡ 12 + 4 * (u16_at (drop 8 value) + u16_at (drop 10 value))

pub has_counts : (value : List ℕ) → is_sack_value value ≡ true → HasCounts value
has_counts value h = record { long = grind (arith, common_steps); filled = grind (arith, common_steps) }

pub value-sack_at : (value : List ℕ) → AreBytes value → HasCounts value → sack_value (sack_at value) ≡ value
unfolding sack_at
value-sack_at value bytes counts =
    let blocks = u16_at (drop 8 value) in
    let lists = drop 12 value in
    let listed : AreBytes lists = AreBytes-drop 12 value bytes in
    let room = length-drop 12 value in
    let filled = counts.filled in
    let long = counts.long in
    let front : length (take (4 * blocks) lists) ≡ 4 * blocks = length-take-le (4 * blocks) lists (omega arith) in
    let back = length-drop (4 * blocks) lists in
    let front_count : length (blocks_in (take (4 * blocks) lists)) ≡ blocks = omega (arith, length-blocks_in (take (4 * blocks) lists)) in
    let back_count : length (words_in (drop (4 * blocks) lists)) ≡ u16_at (drop 10 value) = omega (arith, length-words_in (drop (4 * blocks) lists)) in
    let front_bytes = flat-blocks_in (take (4 * blocks) lists) (AreBytes-take (4 * blocks) lists listed) (omega arith) in
    let back_bytes = flat-words_in (drop (4 * blocks) lists) (AreBytes-drop (4 * blocks) lists listed) (omega arith) in
    let at_10 = bytes-u16_at (drop 10 value) (AreBytes-drop 10 value bytes) (omega (arith, length-drop 10 value)) in
    let at_8 = bytes-u16_at (drop 8 value) (AreBytes-drop 8 value bytes) (omega (arith, length-drop 8 value)) in
    let at_4 = bytes-u32_at (drop 4 value) (AreBytes-drop 4 value bytes) (omega (arith, length-drop 4 value)) in
    let at_0 = bytes-u32_at value bytes (omega arith) in
    rw (front_count, back_count, front_bytes, back_bytes, take-append-drop (4 * blocks) lists, ← drop-drop 2 10 value, at_10, ← drop-drop 2 8 value, at_8, ← drop-drop 4 4 value, at_4) at_0

pub IsSack-sack_at : (value : List ℕ) → AreBytes value → IsSack (sack_at value)
unfolding sack_at
IsSack-sack_at value bytes = record {
  cumulative = u32_at-lt value bytes;
  rwnd = u32_at-lt (drop 4 value) (AreBytes-drop 4 value bytes);
  blocks = all-blocks_in _ (AreBytes-take _ (drop 12 value) (AreBytes-drop 12 value bytes));
  duplicates = all-words_in _ (AreBytes-drop _ (drop 12 value) (AreBytes-drop 12 value bytes));
}
