-- What two endpoints have in common that are opened without packets.
use Rattle.std.proofs.Common.{◌≡◌, Bool, true, false, refl, eqb-true}
use Rattle.std.specs.Prelude.{◌&&◌, ◌==◌, min}
use Rattle.sctp_model.specs.end.EndView.{Configuration}
use Rattle.sctp_model.specs.world.World.{is_shared, are_alike}

pub record AreAlike (c d : Configuration) : Type 0 where
  pub streams : min d.outbound d.inbound ≡ min c.outbound c.inbound
  pub interleave : d.interleave ≡ c.interleave
  pub partial : d.partial ≡ c.partial
  pub reset : d.reset ≡ c.reset
  pub zero_checksum : d.zero_checksum ≡ c.zero_checksum

both_hold : (a b : Bool) → (a && b) ≡ true → (a ≡ true) × (b ≡ true)
both_hold true b h = (refl, h)
both_hold false b h = absurd (cc)

shared_is : (a b : Bool) → is_shared a b ≡ true → a ≡ b
shared_is true true h = refl
shared_is true false h = absurd (cc)
shared_is false true h = absurd (cc)
shared_is false false h = refl

pub alike_is : (c d : Configuration) → are_alike c d ≡ true → AreAlike c d
alike_is c d h = record {
  streams = eqb-true (min d.outbound d.inbound) (min c.outbound c.inbound) one.0;
  interleave = shared_is d.interleave c.interleave two.0;
  partial = shared_is d.partial c.partial three.0;
  reset = shared_is d.reset c.reset four.0;
  zero_checksum = shared_is d.zero_checksum c.zero_checksum four.1;
}
  where
    one : ((min d.outbound d.inbound == min c.outbound c.inbound) ≡ true) × ((is_shared d.interleave c.interleave && (is_shared d.partial c.partial && (is_shared d.reset c.reset && is_shared d.zero_checksum c.zero_checksum))) ≡ true)
    one = both_hold _ _ h

    two : (is_shared d.interleave c.interleave ≡ true) × ((is_shared d.partial c.partial && (is_shared d.reset c.reset && is_shared d.zero_checksum c.zero_checksum)) ≡ true)
    two = both_hold _ _ one.1

    three : (is_shared d.partial c.partial ≡ true) × ((is_shared d.reset c.reset && is_shared d.zero_checksum c.zero_checksum) ≡ true)
    three = both_hold _ _ two.1

    four : (is_shared d.reset c.reset ≡ true) × (is_shared d.zero_checksum c.zero_checksum ≡ true)
    four = both_hold _ _ three.1
