-- Numbers read back from their bytes, and bytes from their numbers.
use Rattle.std.proofs.Common.{◌≡◌, ℕ, zero, suc, ◌+◌, ◌<◌, ◌≤◌, ◌^◌, List, [], ◌∷◌, ◌++◌, length, take, drop, refl, sym, ap, ◌∙◌, get_or, ⊎_elim, arith, length-append, length-drop}
use Rattle.std.proofs.lemmas.Nat.{be_bytes_2, be_bytes_4}
use Rattle.std.proofs.lemmas.List.{get_or-drop, get_or_past, drop-drop}
use Rattle.std.proofs.Math.ListN.{get_or-append}
use Rattle.std.proofs.lemmas.Bool.{cases_lt}
use Rattle.byteorder.specs.Numbers.{big_number-reads_back}
use Rattle.sctp_model.specs.numbers.Numbers.{u16_bytes, u32_bytes, u16_at, u32_at, AreBytes}

pub u16_at-bytes : (n : ℕ) (rest : List ℕ) → n < 2 ^ 16 → u16_at (u16_bytes n ++ rest) ≡ n
unfolding u16_bytes u16_at
u16_at-bytes n rest h = omega arith

pub u32_at-bytes : (n : ℕ) (rest : List ℕ) → n < 2 ^ 32 → u32_at (u32_bytes n ++ rest) ≡ n
unfolding u32_bytes u32_at
u32_at-bytes n rest h = omega (arith, big_number-reads_back 4 n rest h)

pub length-u16 : (n : ℕ) → length (u16_bytes n) ≡ 2
unfolding u16_bytes
length-u16 n = refl

pub length-u32 : (n : ℕ) → length (u32_bytes n) ≡ 4
unfolding u32_bytes
length-u32 n = refl

-- the second number of four bytes, read in these alone
pub u16_in_four : (xs : List ℕ) → u16_at (take 2 (drop 2 (take 4 xs))) ≡ u16_at (drop 2 xs)
unfolding u16_at
u16_in_four [] = refl
u16_in_four (a ∷ []) = refl
u16_in_four (a ∷ b ∷ []) = refl
u16_in_four (a ∷ b ∷ c ∷ []) = refl
u16_in_four (a ∷ b ∷ c ∷ d ∷ rest) = refl

-- what stands behind a number
pub drop-u16 : (n : ℕ) (rest : List ℕ) → drop 2 (u16_bytes n ++ rest) ≡ rest
unfolding u16_bytes
drop-u16 n rest = refl

pub drop-u32 : (n : ℕ) (rest : List ℕ) → drop 4 (u32_bytes n ++ rest) ≡ rest
unfolding u32_bytes
drop-u32 n rest = refl

-- two bytes are those of the number in them
two_bytes : (a b : ℕ) → a < 256 → b < 256 → (i : ℕ) → get_or (a ∷ b ∷ []) i 0 < 256
two_bytes a b p q zero = p
two_bytes a b p q (suc zero) = q
two_bytes a b p q (suc (suc i)) = omega arith

four_bytes : (a b c d : ℕ) → a < 256 → b < 256 → c < 256 → d < 256 → (i : ℕ) → get_or (a ∷ b ∷ c ∷ d ∷ []) i 0 < 256
four_bytes a b c d p q r s zero = p
four_bytes a b c d p q r s (suc zero) = q
four_bytes a b c d p q r s (suc (suc zero)) = r
four_bytes a b c d p q r s (suc (suc (suc zero))) = s
four_bytes a b c d p q r s (suc (suc (suc (suc i)))) = omega arith

pub bytes-u16_at : (bytes : List ℕ) → AreBytes bytes → 2 ≤ length bytes → u16_bytes (u16_at bytes) ++ drop 2 bytes ≡ bytes
unfolding u16_bytes u16_at
bytes-u16_at [] fits long = absurd (omega arith)
bytes-u16_at (a ∷ []) fits long = absurd (omega arith)
bytes-u16_at (a ∷ b ∷ rest) fits long =
    ap (λ (xs : List ℕ). xs ++ rest) (be_bytes_2 (a ∷ b ∷ []) _ refl (two_bytes a b (fits 0) (fits 1)) (omega arith))

pub bytes-u32_at : (bytes : List ℕ) → AreBytes bytes → 4 ≤ length bytes → u32_bytes (u32_at bytes) ++ drop 4 bytes ≡ bytes
unfolding u32_bytes u32_at
bytes-u32_at [] fits long = absurd (omega arith)
bytes-u32_at (a ∷ []) fits long = absurd (omega arith)
bytes-u32_at (a ∷ b ∷ []) fits long = absurd (omega arith)
bytes-u32_at (a ∷ b ∷ c ∷ []) fits long = absurd (omega arith)
bytes-u32_at (a ∷ b ∷ c ∷ d ∷ rest) fits long =
    ap (λ (xs : List ℕ). xs ++ rest) (be_bytes_4 (a ∷ b ∷ c ∷ d ∷ []) _ refl (four_bytes a b c d (fits 0) (fits 1) (fits 2) (fits 3)) (omega arith))

pub u16_at-lt : (bytes : List ℕ) → AreBytes bytes → u16_at bytes < 2 ^ 16
unfolding u16_at
u16_at-lt bytes fits = omega (arith, fits 0, fits 1)

pub u32_at-lt : (bytes : List ℕ) → AreBytes bytes → u32_at bytes < 2 ^ 32
unfolding u32_at
u32_at-lt bytes fits = omega (arith, fits 0, fits 1, fits 2, fits 3)

-- ---- parts of bytes are bytes

pub AreBytes-drop : (n : ℕ) (bytes : List ℕ) → AreBytes bytes → AreBytes (drop n bytes)
AreBytes-drop n bytes fits i = rw (get_or-drop n bytes i 0) (fits (n + i))

pub AreBytes-take : (n : ℕ) (bytes : List ℕ) → AreBytes bytes → AreBytes (take n bytes)
AreBytes-take zero bytes fits i = omega arith
AreBytes-take (suc n) [] fits i = omega arith
AreBytes-take (suc n) (b ∷ bytes) fits zero = fits 0
AreBytes-take (suc n) (b ∷ bytes) fits (suc i) = AreBytes-take n bytes (λ j. fits (suc j)) i

-- the front of a vector's bytes is bytes
pub AreBytes-front : (xs ys zs : List ℕ) → zs ≡ xs ++ ys → ((i d : ℕ) → i < length zs → get_or zs i d < 256) → AreBytes xs
AreBytes-front xs ys zs e fits i =
    ⊎_elim (λ (h : i < length xs). rw (← get_or-append xs ys 0 i h, ← e) (fits i 0 (omega (arith, ap length e, length-append xs ys))))
    (λ (h : length xs ≤ i). omega (arith, get_or_past xs i 0 h)) (cases_lt i (length xs))

-- ---- a number within bytes, and what stands behind it

pub next_u16 : (n : ℕ) (bytes : List ℕ) → AreBytes bytes → n + 2 ≤ length bytes → u16_bytes (u16_at (drop n bytes)) ++ drop (n + 2) bytes ≡ drop n bytes
next_u16 n bytes ranged room =
    ap (λ (rest : List ℕ). u16_bytes (u16_at (drop n bytes)) ++ rest) (sym (drop-drop 2 n bytes))
    ∙ bytes-u16_at (drop n bytes) (AreBytes-drop n bytes ranged) (omega (arith, length-drop n bytes))

pub next_u32 : (n : ℕ) (bytes : List ℕ) → AreBytes bytes → n + 4 ≤ length bytes → u32_bytes (u32_at (drop n bytes)) ++ drop (n + 4) bytes ≡ drop n bytes
next_u32 n bytes ranged room =
    ap (λ (rest : List ℕ). u32_bytes (u32_at (drop n bytes)) ++ rest) (sym (drop-drop 4 n bytes))
    ∙ bytes-u32_at (drop n bytes) (AreBytes-drop n bytes ranged) (omega (arith, length-drop n bytes))
