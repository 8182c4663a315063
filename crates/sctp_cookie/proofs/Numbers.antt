-- A number that was read from bytes, high byte first, has those bytes.
use Rattle.std.proofs.Common.{◌≡◌, ℕ, ◌+◌, ◌≤◌, inl, inr, lit<, List, length, take, drop, sym, ◌∙◌, arith}
use Rattle.std.proofs.lemmas.Bool.{cases_lt}
use Rattle.std.proofs.lemmas.List.{length-take-le, get_or-take, get_or_past, get_or-drop}
use Rattle.std.proofs.lemmas.Nat.{be_bytes_2, be_bytes_4, be_bytes_8}
use Rattle.std.specs.Int.{from_be_bytes, w16, w32, w64}
use Rattle.byteorder.specs.Endian.{big_bytes, big_number}
use Rattle.byteorder.specs.Numbers.{big_from-take}
use Rattle.sctp_model.specs.numbers.Numbers.{AreBytes}

pub AreBytes-drop : (n : ℕ) (xs : List ℕ) → AreBytes xs → AreBytes (drop n xs)
AreBytes-drop n xs bytes i = rw (get_or-drop n xs i 0) (bytes (n + i))

AreBytes-take : (n : ℕ) (xs : List ℕ) → n ≤ length xs → AreBytes xs → AreBytes (take n xs)
AreBytes-take n xs fits bytes i =
    elim (cases_lt i n) [
      | inl below ↦ rw (get_or-take n xs i 0 below) (bytes i)
      | inr past ↦ let size = length-take-le n xs fits in rw (get_or_past (take n xs) i 0 (omega (arith, size))) (lit< tt)
    ]

-- the bytes of the number in the first two bytes are these two
pub big_bytes-number_2 : (xs : List ℕ) → AreBytes xs → 2 ≤ length xs → big_bytes 2 (big_number 2 xs) ≡ take 2 xs
big_bytes-number_2 xs bytes fits =
    let front = take 2 xs in
    let same : big_number 2 front ≡ big_number 2 xs = big_from-take 0 2 2 xs (omega arith) in
    let number : big_number 2 xs ≡ from_be_bytes w16 front = sym same ∙ omega arith in
    be_bytes_2 front (big_number 2 xs) (length-take-le 2 xs fits) (AreBytes-take 2 xs fits bytes) number

-- the same of four bytes
pub big_bytes-number_4 : (xs : List ℕ) → AreBytes xs → 4 ≤ length xs → big_bytes 4 (big_number 4 xs) ≡ take 4 xs
big_bytes-number_4 xs bytes fits =
    let front = take 4 xs in
    let same : big_number 4 front ≡ big_number 4 xs = big_from-take 0 4 4 xs (omega arith) in
    let number : big_number 4 xs ≡ from_be_bytes w32 front = sym same ∙ omega arith in
    be_bytes_4 front (big_number 4 xs) (length-take-le 4 xs fits) (AreBytes-take 4 xs fits bytes) number

-- the same of eight bytes
pub big_bytes-number_8 : (xs : List ℕ) → AreBytes xs → 8 ≤ length xs → big_bytes 8 (big_number 8 xs) ≡ take 8 xs
big_bytes-number_8 xs bytes fits =
    let front = take 8 xs in
    let same : big_number 8 front ≡ big_number 8 xs = big_from-take 0 8 8 xs (omega arith) in
    let number : big_number 8 xs ≡ from_be_bytes w64 front = sym same ∙ omega arith in
    be_bytes_8 front (big_number 8 xs) (length-take-le 8 xs fits) (AreBytes-take 8 xs fits bytes) number
