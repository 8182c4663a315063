-- Numbers as bytes, the most significant byte first (RFC 9260, 3).
use Rattle.std.specs.Prelude.{ℕ, ◌+◌, ◌*◌, ◌/◌, ◌%◌, ◌<◌, List, [], ◌∷◌, slice_index}

-- the bytes of a number of 16 bits
unfoldable pub u16_bytes : ℕ → List ℕ
u16_bytes n = (n / 256 % 256) ∷ (n % 256) ∷ []

-- the bytes of a number of 32 bits
unfoldable pub u32_bytes : ℕ → List ℕ
u32_bytes n = (n / 16777216 % 256) ∷ (n / 65536 % 256) ∷ (n / 256 % 256) ∷ (n % 256) ∷ []

-- the number in the first two bytes
unfoldable pub u16_at : List ℕ → ℕ
u16_at bytes = slice_index bytes 0 * 256 + slice_index bytes 1

-- the number in the first four bytes
unfoldable pub u32_at : List ℕ → ℕ
u32_at bytes =
    slice_index bytes 0 * 16777216 + slice_index bytes 1 * 65536 + slice_index bytes 2 * 256 + slice_index bytes 3

-- numbers that a byte holds
abbrev pub AreBytes : List ℕ → Type 0
AreBytes bytes = (i : ℕ) → slice_index bytes i < 256
