-- A word says one number or none, and bytes or none; which of these is decided.
use Rattle.std.proofs.Common.{◌≡◌, ℕ, ◌%◌, ◌⊎◌, inl, inr, List, [], ◌∷◌, length, slice_index, codes, refl, sym, ap, ◌∙◌, arith}
use Rattle.std.specs.List.{list_all}
use Rattle.std.specs.Str.{bytes_eq}
use Rattle.std.specs.Str.Parse.{AllDigits, digits_value}
use Rattle.std.specs.Char.{digit_value}
use Rattle.std.proofs.lemmas.Bool.{cases_Bool, cases_eq, cases_lt}
use Rattle.std.proofs.lemmas.Slice.Eq.{bytes_eq-Decides}
use Rattle.hex.specs.Hex.{decode_of, lower_digits}
use Rattle.hex.proofs.HexLemmas.{decode_of-encode_lower, length-encode_with}
use Rattle.sctp_text.specs.Numerals.{is_lower_digit, IsDecimal, IsHex, SaysOneNumber, SaysOneList}
use Rattle.sctp_text.proofs.HexDigits.{bytes_said, hex_of_digits, pairs_of}

pub same_or_not : (xs ys : List ℕ) → (xs ≡ ys) ⊎ (xs ≡ ys → ⊥)
same_or_not xs ys =
    let test = bytes_eq-Decides xs ys in
    elim (cases_Bool (bytes_eq xs ys)) [
      | inl good ↦ inl (test.0 good)
      | inr bad ↦ inr (λ e. let good = test.1 e in cc)
    ]

-- ---- numbers

digits_or_not : (w : List ℕ) → AllDigits 10 w ⊎ (AllDigits 10 w → ⊥)
digits_or_not [] = inl tt
digits_or_not (c ∷ cs) =
    elim (cases_lt (digit_value c) 10) [
      | inl digit ↦ elim (digits_or_not cs) [ inl rest ↦ inl (digit, rest) | inr none ↦ inr (λ h. none h.1) ]
      | inr other ↦ inr (λ h. omega (arith, h.0, other))
    ]

plain_or_not : (w : List ℕ) → (slice_index w 0 ≡ 48 → length w ≡ 1) ⊎ ((slice_index w 0 ≡ 48 → length w ≡ 1) → ⊥)
plain_or_not w =
    elim (cases_eq (length w) 1) [
      | inl one ↦ inl (λ h. one)
      | inr more ↦ elim (cases_eq (slice_index w 0) 48) [ inl front ↦ inr (λ h. more (h front)) | inr other ↦ inl (λ h. absurd (other h)) ]
    ]

pub one_decimal : (w : List ℕ) (m n : ℕ) → IsDecimal w m → IsDecimal w n → m ≡ n
one_decimal w m n a b = let first = a.value in let second = b.value in cc

pub decimal_or_none : (w : List ℕ) → ((n : ℕ) × IsDecimal w n) ⊎ ((n : ℕ) → IsDecimal w n → ⊥)
decimal_or_none w =
    elim (cases_lt 0 (length w)) [
      | inl some ↦ elim (digits_or_not w) [
        | inl digits ↦ elim (plain_or_not w) [
          | inl plain ↦ inl (digits_value 10 w, record { digits = (some, digits); plain = plain; value = refl })
          | inr front ↦ inr (λ n is. front is.plain)
        ]
        | inr other ↦ inr (λ n is. other is.digits.1)
      ]
      | inr none ↦ inr (λ n is. omega (arith, none, is.digits.0))
    ]

-- ---- bytes

pub one_hex : (w xs ys : List ℕ) → IsHex w xs → IsHex w ys → xs ≡ ys
one_hex w [] [] a b = refl
one_hex w [] (y ∷ ys) a b = absurd (omega (arith, ap length (sym a.1 ∙ b.1), length-encode_with lower_digits (y ∷ ys)))
one_hex w (x ∷ xs) [] a b = absurd (omega (arith, ap length (sym b.1 ∙ a.1), length-encode_with lower_digits (x ∷ xs)))
one_hex w (x ∷ xs) (y ∷ ys) a b =
    let first = decode_of-encode_lower (x ∷ xs) a.0 in
    let second = decode_of-encode_lower (y ∷ ys) b.0 in
    let same = ap decode_of (sym a.1 ∙ b.1) in
    cc

pub hex_or_none : (w : List ℕ) → ((bytes : List ℕ) × IsHex w bytes) ⊎ ((bytes : List ℕ) → IsHex w bytes → ⊥)
hex_or_none w =
    elim (same_or_not w (codes "-")) [
      | inl dash ↦ inl ([], ((λ i. omega arith), dash))
      | inr other ↦ elim (cases_lt 0 (length w)) [
        | inl some ↦ elim (cases_eq (length w % 2) 0) [
          | inl even ↦ elim (cases_Bool (list_all is_lower_digit w)) [
            | inl lower ↦ let (bytes, are, is) = bytes_said w lower even in inl (bytes, hex_of_digits w bytes some are is)
            | inr bad ↦ inr (λ bytes is. let good = (pairs_of w bytes other is).lower in cc)
          ]
          | inr odd ↦ inr (λ bytes is. odd (pairs_of w bytes other is).even)
        ]
        | inr none ↦ inr (λ bytes is. omega (arith, none, (pairs_of w bytes other is).some))
      ]
    ]

-- ---- the laws

pub says_one_number : (w : List ℕ) → SaysOneNumber w
says_one_number w = record { one = one_decimal w; decided = decimal_or_none w }

pub says_one_list : (w : List ℕ) → SaysOneList w
says_one_list w = record { one = one_hex w; decided = hex_or_none w }
