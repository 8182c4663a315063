-- The laws of wire values, at 16 and at 32 bits: at most one count is near a reference, `near` answers it, and it
-- undoes `wire_value` less than half the space away.
use Rattle.std.proofs.Common.{◌≡◌, ℕ, ◌<◌, ◌^◌, Some, arith}
use Rattle.std.proofs.lemmas.Bool.Decides.{nat_tests}
use Rattle.sctp_model.specs.numbers.Serial.{COUNTS, wire_value, near, IsWithinHalf, IsNear, IsNearAnswer}

-- ---- 16 bits

pub near_is_one_16 : (value reference m n : ℕ) → IsNear 16 value reference m → IsNear 16 value reference n → m ≡ n
near_is_one_16 value reference m n h k = grind arith

pub near_finds_16 : (count reference : ℕ) → count < COUNTS → reference < COUNTS → IsWithinHalf 16 count reference → near 16 (wire_value 16 count) reference ≡ Some count
near_finds_16 count reference a b h = grind (arith, nat_tests)

pub near_answers_16 : (value reference : ℕ) → value < 2 ^ 16 → reference < COUNTS → IsNearAnswer 16 value reference (near 16 value reference)
near_answers_16 value reference a b = grind (arith, nat_tests)

-- ---- 32 bits

pub near_is_one_32 : (value reference m n : ℕ) → IsNear 32 value reference m → IsNear 32 value reference n → m ≡ n
near_is_one_32 value reference m n h k = grind arith

pub near_finds_32 : (count reference : ℕ) → count < COUNTS → reference < COUNTS → IsWithinHalf 32 count reference → near 32 (wire_value 32 count) reference ≡ Some count
near_finds_32 count reference a b h = grind (arith, nat_tests)

pub near_answers_32 : (value reference : ℕ) → value < 2 ^ 32 → reference < COUNTS → IsNearAnswer 32 value reference (near 32 value reference)
near_answers_32 value reference a b = grind (arith, nat_tests)
