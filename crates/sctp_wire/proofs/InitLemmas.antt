-- What INIT and INIT ACK offer is read in one way from their value.
use Rattle.std.proofs.Common.{◌≡◌, ℕ, ◌+◌, ◌≤◌, true, List, ◌++◌, length, drop, refl, ◌∙◌, arith}
use Rattle.sctp_model.specs.wire.Chunk.{InitMeaning}
use Rattle.sctp_model.specs.numbers.Numbers.{u16_bytes, u32_bytes, u16_at, u32_at, AreBytes}
use Rattle.sctp_wire.specs.chunks.Init.{init_numbers, init_value, has_init_list, IsInit, init_at}
use Rattle.sctp_wire.proofs.NumberLemmas.{u16_at-bytes, u32_at-bytes, next_u16, next_u32, u16_at-lt, u32_at-lt, AreBytes-drop}

-- the numbers one behind another, and what follows them
numbers_then : (offer : InitMeaning) (rest : List ℕ)
    → init_numbers offer ++ rest ≡ u32_bytes offer.tag ++ (u32_bytes offer.rwnd ++ (u16_bytes offer.outbound ++ (u16_bytes offer.inbound ++ (u32_bytes offer.tsn ++ rest))))
unfolding u32_bytes u16_bytes
numbers_then offer rest = refl

pub list_behind : (offer : InitMeaning) → drop 16 (init_value offer) ≡ offer.parameters
unfolding u32_bytes u16_bytes
list_behind offer = refl

pub init_length : (offer : InitMeaning) → length (init_value offer) ≡ 16 + length offer.parameters
unfolding u32_bytes u16_bytes
init_length offer = omega arith

pub offer_read : (offer : InitMeaning) → IsInit offer → init_at (init_value offer) ≡ offer
unfolding init_at u32_bytes u16_bytes
offer_read offer fits =
    let value = init_value offer in
    let tag : u32_at value ≡ offer.tag = u32_at-bytes offer.tag _ fits.tag in
    let rwnd : u32_at (drop 4 value) ≡ offer.rwnd = u32_at-bytes offer.rwnd _ fits.rwnd in
    let outbound : u16_at (drop 8 value) ≡ offer.outbound = u16_at-bytes offer.outbound _ fits.outbound in
    let inbound : u16_at (drop 10 value) ≡ offer.inbound = u16_at-bytes offer.inbound _ fits.inbound in
    let tsn : u32_at (drop 12 value) ≡ offer.tsn = u32_at-bytes offer.tsn _ fits.tsn in
    rw (tag, rwnd, outbound, inbound, tsn) refl

pub value_offered : (value : List ℕ) → AreBytes value → 16 ≤ length value → init_value (init_at value) ≡ value
unfolding init_at
value_offered value ranged room =
    numbers_then (init_at value) (drop 16 value)
    ∙ rw (next_u32 12 value ranged (omega arith), next_u16 10 value ranged (omega arith), next_u16 8 value ranged (omega arith), next_u32 4 value ranged (omega arith)) (next_u32 0 value ranged (omega arith))

pub offer_in_range : (value : List ℕ) → AreBytes value → has_init_list value ≡ true → IsInit (init_at value)
unfolding init_at
offer_in_range value ranged listed = record {
  tag = u32_at-lt value ranged;
  rwnd = u32_at-lt (drop 4 value) (AreBytes-drop 4 value ranged);
  outbound = u16_at-lt (drop 8 value) (AreBytes-drop 8 value ranged);
  inbound = u16_at-lt (drop 10 value) (AreBytes-drop 10 value ranged);
  tsn = u32_at-lt (drop 12 value) (AreBytes-drop 12 value ranged);
  listed = listed;
}
