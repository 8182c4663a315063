-- Numbers and bytes as words.
use Rattle.std.specs.Prelude.{◌≡◌, ℕ, Bool, ◌&&◌, ◌||◌, ◌⊎◌, nat_le, List, [], ◌∷◌, length, slice_index, codes}
use Rattle.std.specs.Str.Parse.{IsNumeral, digits_value}
use Rattle.hex.specs.Hex.{encode_lower, IsBytes}

-- A number in decimal: digits, at least one, without sign; none but the number 0 begins with `0` (ASCII 48).
pub record IsDecimal (word : List ℕ) (n : ℕ) : Type 0 where
  pub digits : IsNumeral 10 word
  pub plain : slice_index word 0 ≡ 48 → length word ≡ 1
  pub value : digits_value 10 word ≡ n

-- bytes as two lower-case digits each; `-` if there are none
abbrev pub hex_word : List ℕ → List ℕ
hex_word [] = codes "-"
hex_word (b ∷ bs) = encode_lower (b ∷ bs)

-- the word says these bytes
abbrev pub IsHex : List ℕ → List ℕ → Type 0
IsHex word bytes = IsBytes bytes × (word ≡ hex_word bytes)

-- one of the digits `0` to `9` and `a` to `f`
abbrev pub is_lower_digit : ℕ → Bool
is_lower_digit c = (nat_le 48 c && nat_le c 57) || (nat_le 97 c && nat_le c 102)

-- ---- laws

-- a word says one number or none, and which of these is decided
pub record SaysOneNumber (word : List ℕ) : Type 0 where
  pub one : (m n : ℕ) → IsDecimal word m → IsDecimal word n → m ≡ n
  pub decided : ((n : ℕ) × IsDecimal word n) ⊎ ((n : ℕ) → IsDecimal word n → ⊥)

-- and so it is of bytes
pub record SaysOneList (word : List ℕ) : Type 0 where
  pub one : (xs ys : List ℕ) → IsHex word xs → IsHex word ys → xs ≡ ys
  pub decided : ((bytes : List ℕ) × IsHex word bytes) ⊎ ((bytes : List ℕ) → IsHex word bytes → ⊥)
