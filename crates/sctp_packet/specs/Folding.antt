-- A long run of bytes, folded from its front: each byte is taken away in its place and added 65, 155, 170, 195 and 209 places on, which leaves the
-- checksum's register as it was, since x^1672 + x^1152 + x^432 + x^312 + x^112 + 1 is a multiple of the polynomial. Only the parts of the body speak of it.
use Rattle.std.specs.Prelude.{◌≡◌, ℕ, ◌+◌, ◌-◌, ◌*◌, ◌/◌, ◌%◌, ◌^◌, ◌<◌, ◌≤◌, bit_xor, List, slice_index}

-- so many zeros stand in front of the bytes that are folded: as many as the farthest that one reaches, up to whole words
abbrev pub FRONT : ℕ
FRONT = 216

-- a byte of a number, the lowest first
abbrev pub byte_of : ℕ → ℕ → ℕ
byte_of a i = a / 2 ^ (8 * i) % 256

-- a byte of the run, with the register added to the first four
abbrev pub mixed_byte : (register : ℕ) → (bytes : List ℕ) → ℕ → ℕ
mixed_byte register bytes i = bit_xor (slice_index bytes i) (byte_of register i)

-- what reaches a place from those before it
abbrev pub reaching : (folded : List ℕ) → (p : ℕ) → ℕ
reaching xs p =
    bit_xor (bit_xor (bit_xor (bit_xor (slice_index xs (p - 65)) (slice_index xs (p - 155))) (slice_index xs (p - 170))) (slice_index xs (p - 195))) (slice_index xs (p - 209))

-- The first n bytes of the run are folded: what stands for each is it and what reaches it; elsewhere are zeros.
pub record IsFolded (register : ℕ) (bytes : List ℕ) (n : ℕ) (folded : List ℕ) : Type 0 where
  pub before : (j : ℕ) → j < FRONT → slice_index folded j ≡ 0
  pub each : (i : ℕ) → i < n → slice_index folded (FRONT + i) ≡ bit_xor (mixed_byte register bytes i) (reaching folded (FRONT + i))
  pub behind : (j : ℕ) → FRONT + n ≤ j → slice_index folded j ≡ 0

-- The first n bytes of what is left behind the first k: each is its byte and what reaches it from these.
abbrev pub IsLeft : (bytes folded : List ℕ) → (k n : ℕ) → (left : List ℕ) → Type 0
IsLeft bytes folded k n left = (i : ℕ) → i < n → slice_index left i ≡ bit_xor (slice_index bytes (k + i)) (reaching folded (FRONT + (k + i)))
