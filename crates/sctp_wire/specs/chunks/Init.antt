-- INIT and INIT ACK (RFC 9260, 3.3.2 and 3.3.3): 16 bytes of numbers, and a list of parameters.
use Rattle.std.specs.Prelude.{◌≡◌, ℕ, ◌<◌, ◌^◌, Bool, true, nat_le, List, ◌++◌, length, drop}
use Rattle.sctp_model.specs.wire.Chunk.{InitMeaning}
use Rattle.sctp_model.specs.numbers.Numbers.{u16_bytes, u32_bytes, u16_at, u32_at}
use Rattle.sctp_model.specs.wire.Typed.{are_typed}

-- the numbers, in the order in which they stand: initiate tag, a_rwnd, outbound and inbound streams, initial TSN
abbrev pub init_numbers : InitMeaning → List ℕ
init_numbers offer =
    u32_bytes offer.tag ++ (u32_bytes offer.rwnd ++ (u16_bytes offer.outbound ++ (u16_bytes offer.inbound ++ u32_bytes offer.tsn)))

-- the value: the numbers, and the parameters' bytes
abbrev pub init_value : InitMeaning → List ℕ
init_value offer = init_numbers offer ++ offer.parameters

-- The layout accepts what has room for the numbers;
abbrev pub has_init_numbers : List ℕ → Bool
has_init_numbers value = nat_le 16 (length value)

-- and what stands behind them must be a list.
abbrev pub has_init_list : List ℕ → Bool
has_init_list value = are_typed (drop 16 value)

-- each number is within its bits, and the parameters are a list
pub record IsInit (offer : InitMeaning) : Type 0 where
  pub tag : offer.tag < 2 ^ 32
  pub rwnd : offer.rwnd < 2 ^ 32
  pub outbound : offer.outbound < 2 ^ 16
  pub inbound : offer.inbound < 2 ^ 16
  pub tsn : offer.tsn < 2 ^ 32
  pub listed : are_typed offer.parameters ≡ true

-- what a value offers
unfoldable pub init_at : List ℕ → InitMeaning
init_at value = record {
  tag = u32_at value;
  rwnd = u32_at (drop 4 value);
  outbound = u16_at (drop 8 value);
  inbound = u16_at (drop 10 value);
  tsn = u32_at (drop 12 value);
  parameters = drop 16 value;
}
