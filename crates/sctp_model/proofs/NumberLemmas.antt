-- Numbers of 16 bits read back from their bytes, and bytes from their numbers.
use Rattle.std.proofs.Common.{◌≡◌, ℕ, zero, suc, ◌+◌, ◌<◌, ◌≤◌, ◌^◌, List, [], ◌∷◌, ◌++◌, length, drop, refl, ap, get_or, arith}
use Rattle.std.proofs.lemmas.Nat.{be_bytes_2}
use Rattle.std.proofs.lemmas.List.{get_or-drop}
use Rattle.sctp_model.specs.numbers.Numbers.{u16_bytes, u16_at, AreBytes}

pub u16_at-bytes : (n : ℕ) (rest : List ℕ) → n < 2 ^ 16 → u16_at (u16_bytes n ++ rest) ≡ n
unfolding u16_bytes u16_at
u16_at-bytes n rest h = omega arith

pub length-u16 : (n : ℕ) → length (u16_bytes n) ≡ 2
unfolding u16_bytes
length-u16 n = refl

-- what is after a number
pub drop-u16 : (n : ℕ) (rest : List ℕ) → drop 2 (u16_bytes n ++ rest) ≡ rest
unfolding u16_bytes
drop-u16 n rest = refl

-- two bytes are those of the number in them
two_bytes : (a b : ℕ) → a < 256 → b < 256 → (i : ℕ) → get_or (a ∷ b ∷ []) i 0 < 256
two_bytes a b p q zero = p
two_bytes a b p q (suc zero) = q
two_bytes a b p q (suc (suc i)) = omega arith

pub bytes-u16_at : (bytes : List ℕ) → AreBytes bytes → 2 ≤ length bytes → u16_bytes (u16_at bytes) ++ drop 2 bytes ≡ bytes
unfolding u16_bytes u16_at
bytes-u16_at [] fits long = absurd (omega arith)
bytes-u16_at (a ∷ []) fits long = absurd (omega arith)
bytes-u16_at (a ∷ b ∷ rest) fits long =
    ap (λ (xs : List ℕ). xs ++ rest) (be_bytes_2 (a ∷ b ∷ []) _ refl (two_bytes a b (fits 0) (fits 1)) (omega arith))

pub u16_at-lt : (bytes : List ℕ) → AreBytes bytes → u16_at bytes < 2 ^ 16
unfolding u16_at
u16_at-lt bytes fits = omega (arith, fits 0, fits 1)

pub AreBytes-drop : (n : ℕ) (bytes : List ℕ) → AreBytes bytes → AreBytes (drop n bytes)
AreBytes-drop n bytes fits i = rw (get_or-drop n bytes i 0) (fits (n + i))
