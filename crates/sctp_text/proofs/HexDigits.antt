-- Pairs of digits of lower case are the bytes that they say, and no other bytes.
use Rattle.std.proofs.Common.{◌≡◌, ℕ, zero, suc, ◌+◌, ◌-◌, ◌*◌, ◌/◌, ◌%◌, ◌<◌, ◌==◌, Bool, true, false, not, ◌&&◌, ◌||◌, nat_lt, nat_le, cond, inl, inr, List, [], ◌∷◌, length, slice_index, Ok, codes, refl, sym, ap, ◌∙◌, arith}
use Rattle.std.specs.List.{list_all}
use Rattle.std.proofs.lemmas.Bool.{and_parts, cases_lt, eqb-true, ltb-true}
use Rattle.hex.specs.Hex.{decode_of, encode_with, encode_lower, lower_digits, IsBytes}
use Rattle.hex.proofs.HexLemmas.{decode_of-encode_lower, length-encode_with}
use Rattle.sctp_text.specs.Numerals.{is_lower_digit, IsHex}

-- ---- the digits of the table

-- a test that the first n numbers pass
abbrev all_below : (ℕ → Bool) → ℕ → Bool
all_below p zero = true
all_below p (suc n) = p n && all_below p n

all_below-at : (p : ℕ → Bool) (n k : ℕ) → all_below p n ≡ true → k < n → p k ≡ true
all_below-at p zero k passed lt = absurd (omega arith)
all_below-at p (suc n) k passed lt =
    let parts = and_parts (p n) (all_below p n) passed in
    elim (cases_lt k n) [
      | inl below ↦ all_below-at p n k parts.1 below
      | inr top ↦ let same : k ≡ n = omega arith in rw same parts.0
    ]

-- what a digit says
abbrev digit_said : ℕ → ℕ
digit_said c = cond (nat_le 97 c) (c - 87) (c - 48)

-- the byte is no digit, or the table has it at its value
abbrev stands_there : ℕ → Bool
stands_there c = not (is_lower_digit c) || ((slice_index lower_digits (digit_said c) == c) && nat_lt (digit_said c) 16)

after_not : (b c : Bool) → (not b || c) ≡ true → b ≡ true → c ≡ true
after_not true c h b = h
after_not false c h b = cc

digit_at : (c : ℕ) → is_lower_digit c ≡ true → (v : ℕ) × (v < 16) × (slice_index lower_digits v ≡ c)
digit_at c lower =
    let small : c < 128 = grind arith in
    let here = after_not _ _ (all_below-at stands_there 128 c refl small) lower in
    let parts = and_parts (slice_index lower_digits (digit_said c) == c) (nat_lt (digit_said c) 16) here in
    (digit_said c, ltb-true _ _ parts.1, eqb-true _ _ parts.0)

-- each digit of the table is one of lower case
digit_is_lower : (v : ℕ) → v < 16 → is_lower_digit (slice_index lower_digits v) ≡ true
digit_is_lower v small = all_below-at (λ n. is_lower_digit (slice_index lower_digits n)) 16 v refl small

-- ---- words

IsBytes-cons : (b : ℕ) (bytes : List ℕ) → b < 256 → IsBytes bytes → IsBytes (b ∷ bytes)
IsBytes-cons b bytes h hs zero = h
IsBytes-cons b bytes h hs (suc i) = hs i

-- the digits of a byte of two values
pair_of : (h l : ℕ) (bytes : List ℕ) → h < 16 → l < 16
    → encode_lower ((h * 16 + l) ∷ bytes) ≡ slice_index lower_digits h ∷ slice_index lower_digits l ∷ encode_lower bytes
unfolding encode_with
pair_of h l bytes high low =
    let top : (h * 16 + l) / 16 ≡ h = omega arith in
    let bottom : (h * 16 + l) % 16 ≡ l = omega arith in
    rw (top, bottom) refl

-- an even number of digits of lower case is some bytes
pub bytes_said : (w : List ℕ) → list_all is_lower_digit w ≡ true → length w % 2 ≡ 0 → (bytes : List ℕ) × IsBytes bytes × (w ≡ encode_lower bytes)
unfolding encode_with
bytes_said [] lower even = ([], (λ i. omega arith), refl)
bytes_said (a ∷ []) lower even = absurd (omega arith)
bytes_said (a ∷ b ∷ w) lower even =
    let first = and_parts (is_lower_digit a) (is_lower_digit b && list_all is_lower_digit w) lower in
    let second = and_parts (is_lower_digit b) (list_all is_lower_digit w) first.1 in
    let (h, high, h_is) = digit_at a first.0 in
    let (l, low, l_is) = digit_at b second.0 in
    let (bytes, are, is) = bytes_said w second.1 (omega arith) in
    let pair = pair_of h l bytes high low in
    ((h * 16 + l) ∷ bytes, IsBytes-cons (h * 16 + l) bytes (omega arith) are, cc)

-- bytes are an even number of digits of lower case
pub digits_of_bytes : (bytes : List ℕ) → IsBytes bytes → list_all is_lower_digit (encode_lower bytes) ≡ true
unfolding encode_with
digits_of_bytes [] are = refl
digits_of_bytes (b ∷ bytes) are =
    let high = digit_is_lower (b / 16) (omega (arith, are 0)) in
    let low = digit_is_lower (b % 16) (omega arith) in
    let rest = digits_of_bytes bytes (λ i. are (suc i)) in
    rw (high, low, rest) refl

pub hex_of_digits : (w bytes : List ℕ) → 0 < length w → IsBytes bytes → w ≡ encode_lower bytes → IsHex w bytes
unfolding encode_with
hex_of_digits w [] some are is = absurd (omega (arith, ap length is))
hex_of_digits w (b ∷ bytes) some are is = (are, is)

-- a word of pairs of digits
pub record AreDigitPairs (w : List ℕ) : Type 0 where
  pub some : 0 < length w
  pub even : length w % 2 ≡ 0
  pub lower : list_all is_lower_digit w ≡ true

-- what decodes is what the digits say
pub decoded : (w bytes : List ℕ) → AreDigitPairs w → decode_of w ≡ Ok bytes → IsHex w bytes
decoded w bytes pairs ok =
    let (said, are, is) = bytes_said w pairs.lower pairs.even in
    let back : decode_of w ≡ Ok said = ap decode_of is ∙ decode_of-encode_lower said are in
    let same : Ok said ≡ Ok bytes = sym back ∙ ok in
    let equal : said ≡ bytes = cc in
    rw (← equal) (hex_of_digits w said pairs.some are is)

-- a word other than `-` that says bytes is pairs of digits
pub pairs_of : (w bytes : List ℕ) → (w ≡ codes "-" → ⊥) → IsHex w bytes → AreDigitPairs w
unfolding encode_with
pairs_of w [] other is = absurd (other is.1)
pairs_of w (b ∷ bytes) other is =
    let size = length-encode_with lower_digits (b ∷ bytes) in
    record {
      some = omega (arith, ap length is.1);
      even = omega (arith, ap length is.1, size);
      lower = ap (list_all is_lower_digit) is.1 ∙ digits_of_bytes (b ∷ bytes) is.0;
    }
