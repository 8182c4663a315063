-- The bytes that are appended for a parameter are those of its item.
use Rattle.std.proofs.Common.{◌≡◌, ℕ, ◌+◌, ◌*◌, ◌≤◌, List, [], ◌∷◌, length, map, refl, arith}
use Rattle.sctp_model.specs.numbers.Lists.{joined}
use Rattle.sctp_model.specs.numbers.Numbers.{u16_bytes, u32_bytes}
use Rattle.sctp_model.specs.wire.Typed.{IsTyped, typed_length}
use Rattle.sctp_model.specs.wire.Reconfig.{ResetMeaning, ResetResult, reset_item, response_item}

length-u16s : (xs : List ℕ) → length (joined (map u16_bytes xs)) ≡ 2 * length xs
unfolding u16_bytes
length-u16s [] = refl
length-u16s (x ∷ xs) = omega (arith, length-u16s xs)

pub length-reset : (answered : ℕ) (m : ResetMeaning) → typed_length (reset_item answered m) ≡ 16 + 2 * length m.streams
unfolding u32_bytes
length-reset answered m = omega (arith, length-u16s m.streams)

pub length-response : (number : ℕ) (a : ResetResult) → typed_length (response_item number a) ≡ 12
unfolding u32_bytes
length-response number a = refl

-- their length fields have 16 bits
pub reset_fits : (answered : ℕ) (m : ResetMeaning) → length m.streams ≤ 32759 → IsTyped (reset_item answered m)
reset_fits answered m few = record { kind = omega arith; length = omega (arith, length-reset answered m) }

pub response_fits : (number : ℕ) (a : ResetResult) → IsTyped (response_item number a)
response_fits number a = record { kind = omega arith; length = omega (arith, length-response number a) }
