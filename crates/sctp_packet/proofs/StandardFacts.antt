-- What the definition gives on a known input, computed from it by long division.
use Rattle.std.proofs.Common.{◌≡◌, [], refl}
use Rattle.std.specs.Prelude.{codes}
use Rattle.sctp_packet.specs.Checksum.{bits, number, divisor, crc32c}

nothing_sums_to_zero : crc32c [] ≡ 0
unfolding bits number divisor crc32c
nothing_sums_to_zero = refl

the_digits_sum_to_the_check_value : crc32c (codes "123456789") ≡ 0xE306_9283
unfolding bits number divisor crc32c
the_digits_sum_to_the_check_value = refl
