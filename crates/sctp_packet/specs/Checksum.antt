-- CRC32c, the checksum of an SCTP packet (RFC 9260, appendix A).
use Rattle.std.specs.Prelude.{◌≡◌, ℕ, zero, suc, ◌+◌, ◌*◌, ◌/◌, ◌%◌, Bool, true, not, nat_eq, cond, List, [], ◌∷◌, ◌++◌, map, reverse, take, drop, flat_map}
use Rattle.sctp_packet.specs.Remainder.{zeros, remainder, IsRemainder}

-- So many bits of a number, the lowest first.
unfoldable pub bits : ℕ → ℕ → List Bool
bits zero n = []
bits (suc w) n = nat_eq (n % 2) 1 ∷ bits w (n / 2)

-- The number with these bits, the lowest first.
unfoldable pub number : List Bool → ℕ
number [] = 0
number (b ∷ bs) = cond b 1 0 + 2 * number bs

-- The divisor: x^32 plus the polynomial whose coefficients are the bits of 0x1EDC6F41, the highest first.
unfoldable pub divisor : List Bool
divisor = true ∷ reverse (bits 32 0x1EDC6F41)

-- The bits of a message: its bytes in order, the lowest bit of each first.
abbrev pub message_bits : List ℕ → List Bool
message_bits bytes = flat_map (bits 8) bytes

-- A list with its first so many bits flipped.
abbrev pub flip_first : ℕ → List Bool → List Bool
flip_first n bs = map not (take n bs) ++ drop n bs

-- What is divided: the bits of the message and 32 zeros, the first 32 of this list flipped.
abbrev pub dividend : List ℕ → List Bool
dividend bytes = flip_first 32 (message_bits bytes ++ zeros 32)

-- How a remainder is sent: its bits flipped, and the highest power in the lowest bit.
abbrev pub sent_as : List Bool → ℕ
sent_as rest = number (map not rest)

-- A number is the checksum of the bytes: it is what a remainder on division of the dividend is sent as.
pub record IsChecksum (bytes : List ℕ) (sum : ℕ) : Type 0 where
  pub rest : List Bool
  pub remains : IsRemainder (dividend bytes) divisor rest
  pub sent : sum ≡ sent_as rest

-- The checksum of the bytes, by long division.
unfoldable pub crc32c : List ℕ → ℕ
crc32c bytes = sent_as (remainder divisor (dividend bytes))
