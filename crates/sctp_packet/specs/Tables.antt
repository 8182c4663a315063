-- The register of a checksum as a number, its highest power in the lowest bit, where only zero bits come in. It is a sum without carries of what
-- each of its bytes leaves, so that sixteen bytes can be taken at once, a table for each place.
use Rattle.std.specs.Prelude.{◌≡◌, ℕ, zero, suc, ◌+◌, ◌*◌, ◌/◌, ◌%◌, bit_xor, if◌then◌else◌, ◌==◌, List, [], ◌∷◌, ◌++◌, map}
use Rattle.sctp_packet.specs.Remainder.{zeros, remainder}
use Rattle.sctp_packet.specs.Checksum.{bits, divisor}

-- what is added where the lowest bit was set: the polynomial 0x1EDC6F41, the highest power in the lowest bit
abbrev pub taken_away : ℕ → ℕ
taken_away lowest = if lowest == 1 then 0x82F6_3B78 else 0

-- one zero bit
unfoldable pub step : ℕ → ℕ
step register = bit_xor (register / 2) (taken_away (register % 2))

-- so many zero bits
unfoldable pub steps : ℕ → ℕ → ℕ
steps zero register = register
steps (suc n) register = steps n (step register)

-- rows of a table: each is the one before, after eight zero bits more
unfoldable pub rows_from : ℕ → List ℕ → List (List ℕ)
rows_from zero row = []
rows_from (suc n) row = map (steps 8) row ∷ rows_from n (map (steps 8) row)

-- a number is what the table has for a byte in a place: its bits are the remainder on division of the byte, with 32 zeros and
-- eight for each byte that follows, by long division
abbrev pub IsEntry : ℕ → ℕ → ℕ → Type 0
IsEntry place byte entry = bits 32 entry ≡ remainder divisor (bits 8 byte ++ zeros (8 * place + 32))
