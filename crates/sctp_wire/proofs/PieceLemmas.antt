-- The flags and values of DATA and I-DATA are read in one way.
use Rattle.std.proofs.Common.{◌≡◌, ℕ, zero, suc, ◌+◌, ◌*◌, ◌/◌, ◌<◌, ◌≤◌, ◌^◌, Bool, true, false, List, ◌++◌, length, drop, refl, arith, lit<, length-drop}
use Rattle.std.specs.Prelude.{not, ◌==◌}
use Rattle.std.specs.Int.{bit_at}
use Rattle.std.proofs.lemmas.Nat.Bits.{and_pow, bit_at-lt}
use Rattle.std.proofs.lemmas.List.{drop-drop}
use Rattle.std.proofs.lemmas.Grind.{common_steps}
use Rattle.sctp_model.specs.wire.Chunk.{PieceMeaning}
use Rattle.sctp_model.specs.numbers.Numbers.{u16_bytes, u32_bytes, u16_at, AreBytes}
use Rattle.sctp_wire.specs.chunks.Flags.{flag, has_flag}
use Rattle.sctp_wire.specs.chunks.Piece.{data_flags}
use Rattle.sctp_wire.specs.chunks.Data.{data_value, IsDataPiece, data_at}
use Rattle.sctp_wire.specs.chunks.IData.{i_data_laid, IsIDataPiece, i_data_at}
use Rattle.sctp_wire.proofs.NumberLemmas.{u16_at-bytes, u32_at-bytes, bytes-u16_at, bytes-u32_at, u16_at-lt, u32_at-lt, AreBytes-drop}

-- ---- flags

-- a bit that is tested by its mask
flag_from_bit : (b m : ℕ) → b < 2 → 0 < m → flag m (not (b * m == 0)) ≡ b * m
flag_from_bit zero m small some = grind (arith, common_steps)
flag_from_bit (suc zero) m small some = grind (arith, common_steps)
flag_from_bit (suc (suc b)) m small some = absurd (omega arith)

flag-has : (n k : ℕ) → 0 < 2 ^ k → flag (2 ^ k) (has_flag n (2 ^ k)) ≡ bit_at n k * 2 ^ k
flag-has n k some = rw (and_pow n k) (flag_from_bit (bit_at n k) (2 ^ k) (bit_at-lt n k) some)

has_from_bit : (b m : ℕ) (set : Bool) → 0 < m → flag m set ≡ b * m → not (b * m == 0) ≡ set
has_from_bit b m true some e = grind (arith, common_steps)
has_from_bit b m false some e = grind (arith, common_steps)

has-flag : (n k : ℕ) (set : Bool) → 0 < 2 ^ k → flag (2 ^ k) set ≡ bit_at n k * 2 ^ k → has_flag n (2 ^ k) ≡ set
has-flag n k set some e = rw (and_pow n k) (has_from_bit (bit_at n k) (2 ^ k) set some e)

flag_is : (m : ℕ) (set : Bool) → (b : ℕ) × (b < 2) × (flag m set ≡ b * m)
flag_is m true = (1, omega arith, omega arith)
flag_is m false = (0, omega arith, omega arith)

-- a byte of flags is its four low bits, and unused ones
pub flags_split : (flags : ℕ) (value : List ℕ) → flags ≡ 16 * (flags / 16) + data_flags (data_at flags value)
unfolding data_at
flags_split flags value =
    omega (arith, flag-has flags 3 (lit< tt), flag-has flags 2 (lit< tt), flag-has flags 1 (lit< tt), flag-has flags 0 (lit< tt))

pub i_flags_split : (flags : ℕ) (value : List ℕ) → flags ≡ 16 * (flags / 16) + data_flags (i_data_at flags value)
unfolding i_data_at
i_flags_split flags value =
    omega (arith, flag-has flags 3 (lit< tt), flag-has flags 2 (lit< tt), flag-has flags 1 (lit< tt), flag-has flags 0 (lit< tt))

-- the four flags are read from them, whatever the unused ones are
flags_read : (p : PieceMeaning) (unused flags : ℕ) → flags ≡ 16 * unused + data_flags p
    → (has_flag flags 8 ≡ p.immediate) × (has_flag flags 4 ≡ p.unordered) × (has_flag flags 2 ≡ p.begin) × (has_flag flags 1 ≡ p.end)
flags_read p unused flags e =
    let i = flag_is 8 p.immediate in
    let u = flag_is 4 p.unordered in
    let b = flag_is 2 p.begin in
    let l = flag_is 1 p.end in (
      has-flag flags 3 p.immediate (lit< tt) (omega arith),
      has-flag flags 2 p.unordered (lit< tt) (omega arith),
      has-flag flags 1 p.begin (lit< tt) (omega arith),
      has-flag flags 0 p.end (lit< tt) (omega arith),
    )

-- the flag T and unused ones
pub reflected_split : (flags : ℕ) → flags ≡ 2 * (flags / 2) + flag 1 (has_flag flags 1)
reflected_split flags = omega (arith, flag-has flags 0 (lit< tt))

pub reflected_read : (flags unused : ℕ) (set : Bool) → flags ≡ 2 * unused + flag 1 set → has_flag flags 1 ≡ set
reflected_read flags unused set e = let t = flag_is 1 set in has-flag flags 0 set (lit< tt) (omega arith)

-- ---- DATA

drop-data_4 : (p : PieceMeaning) → drop 4 (data_value p) ≡ u16_bytes p.stream ++ (u16_bytes p.number ++ (u32_bytes p.word ++ p.bytes))
unfolding u32_bytes
drop-data_4 p = refl

drop-data_6 : (p : PieceMeaning) → drop 6 (data_value p) ≡ u16_bytes p.number ++ (u32_bytes p.word ++ p.bytes)
unfolding u32_bytes u16_bytes
drop-data_6 p = refl

drop-data_8 : (p : PieceMeaning) → drop 8 (data_value p) ≡ u32_bytes p.word ++ p.bytes
unfolding u32_bytes u16_bytes
drop-data_8 p = refl

drop-data_12 : (p : PieceMeaning) → drop 12 (data_value p) ≡ p.bytes
unfolding u32_bytes u16_bytes
drop-data_12 p = refl

pub length-data_value : (p : PieceMeaning) → length (data_value p) ≡ 12 + length p.bytes
unfolding u32_bytes u16_bytes
length-data_value p = omega arith

pub data_at-value : (p : PieceMeaning) (unused flags : ℕ) → flags ≡ 16 * unused + data_flags p → IsDataPiece p → data_at flags (data_value p) ≡ p
unfolding data_at
data_at-value p unused flags e fits =
    let f = flags_read p unused flags e in
    rw (f.0, f.1, f.2, f.3, u32_at-bytes p.tsn _ fits.tsn, drop-data_4 p, u16_at-bytes p.stream _ fits.stream, drop-data_6 p, u16_at-bytes p.number _ fits.number, drop-data_8 p, u32_at-bytes p.word _ fits.word, drop-data_12 p) refl

pub value-data_at : (flags : ℕ) (value : List ℕ) → AreBytes value → 12 ≤ length value → data_value (data_at flags value) ≡ value
unfolding data_at
value-data_at flags value bytes long =
    let at_8 = bytes-u32_at (drop 8 value) (AreBytes-drop 8 value bytes) (omega (arith, length-drop 8 value)) in
    let at_6 = bytes-u16_at (drop 6 value) (AreBytes-drop 6 value bytes) (omega (arith, length-drop 6 value)) in
    let at_4 = bytes-u16_at (drop 4 value) (AreBytes-drop 4 value bytes) (omega (arith, length-drop 4 value)) in
    let at_0 = bytes-u32_at value bytes (omega arith) in
    rw (← drop-drop 4 8 value, at_8, ← drop-drop 2 6 value, at_6, ← drop-drop 2 4 value, at_4) at_0

pub IsDataPiece-data_at : (flags : ℕ) (value : List ℕ) → AreBytes value → IsDataPiece (data_at flags value)
unfolding data_at
IsDataPiece-data_at flags value bytes = record {
  tsn = u32_at-lt value bytes;
  stream = u16_at-lt (drop 4 value) (AreBytes-drop 4 value bytes);
  number = u16_at-lt (drop 6 value) (AreBytes-drop 6 value bytes);
  word = u32_at-lt (drop 8 value) (AreBytes-drop 8 value bytes);
}

-- ---- I-DATA

drop-i_data_4 : (r : ℕ) (p : PieceMeaning) → drop 4 (i_data_laid r p) ≡ u16_bytes p.stream ++ (u16_bytes r ++ (u32_bytes p.number ++ (u32_bytes p.word ++ p.bytes)))
unfolding u32_bytes
drop-i_data_4 r p = refl

drop-i_data_8 : (r : ℕ) (p : PieceMeaning) → drop 8 (i_data_laid r p) ≡ u32_bytes p.number ++ (u32_bytes p.word ++ p.bytes)
unfolding u32_bytes u16_bytes
drop-i_data_8 r p = refl

drop-i_data_12 : (r : ℕ) (p : PieceMeaning) → drop 12 (i_data_laid r p) ≡ u32_bytes p.word ++ p.bytes
unfolding u32_bytes u16_bytes
drop-i_data_12 r p = refl

drop-i_data_16 : (r : ℕ) (p : PieceMeaning) → drop 16 (i_data_laid r p) ≡ p.bytes
unfolding u32_bytes u16_bytes
drop-i_data_16 r p = refl

pub length-i_data_laid : (r : ℕ) (p : PieceMeaning) → length (i_data_laid r p) ≡ 16 + length p.bytes
unfolding u32_bytes u16_bytes
length-i_data_laid r p = omega arith

pub i_data_at-laid : (r : ℕ) (p : PieceMeaning) (unused flags : ℕ) → flags ≡ 16 * unused + data_flags p → IsIDataPiece p → i_data_at flags (i_data_laid r p) ≡ p
unfolding i_data_at
i_data_at-laid r p unused flags e fits =
    let f = flags_read p unused flags e in
    rw (f.0, f.1, f.2, f.3, u32_at-bytes p.tsn _ fits.tsn, drop-i_data_4 r p, u16_at-bytes p.stream _ fits.stream, drop-i_data_8 r p, u32_at-bytes p.number _ fits.number, drop-i_data_12 r p, u32_at-bytes p.word _ fits.word, drop-i_data_16 r p) refl

pub laid-i_data_at : (flags : ℕ) (value : List ℕ) → AreBytes value → 16 ≤ length value → i_data_laid (u16_at (drop 6 value)) (i_data_at flags value) ≡ value
unfolding i_data_at
laid-i_data_at flags value bytes long =
    let at_12 = bytes-u32_at (drop 12 value) (AreBytes-drop 12 value bytes) (omega (arith, length-drop 12 value)) in
    let at_8 = bytes-u32_at (drop 8 value) (AreBytes-drop 8 value bytes) (omega (arith, length-drop 8 value)) in
    let at_6 = bytes-u16_at (drop 6 value) (AreBytes-drop 6 value bytes) (omega (arith, length-drop 6 value)) in
    let at_4 = bytes-u16_at (drop 4 value) (AreBytes-drop 4 value bytes) (omega (arith, length-drop 4 value)) in
    let at_0 = bytes-u32_at value bytes (omega arith) in
    rw (← drop-drop 4 12 value, at_12, ← drop-drop 4 8 value, at_8, ← drop-drop 2 6 value, at_6, ← drop-drop 2 4 value, at_4) at_0

pub IsIDataPiece-i_data_at : (flags : ℕ) (value : List ℕ) → AreBytes value → IsIDataPiece (i_data_at flags value)
unfolding i_data_at
IsIDataPiece-i_data_at flags value bytes = record {
  tsn = u32_at-lt value bytes;
  stream = u16_at-lt (drop 4 value) (AreBytes-drop 4 value bytes);
  number = u32_at-lt (drop 8 value) (AreBytes-drop 8 value bytes);
  word = u32_at-lt (drop 12 value) (AreBytes-drop 12 value bytes);
}
