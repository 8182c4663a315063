-- Stream numbers and parameters are read back from their bytes.
use Rattle.std.proofs.Common.{◌≡◌, ℕ, ◌+◌, ◌*◌, ◌/◌, ◌%◌, ◌<◌, ◌≤◌, ◌^◌, List, [], ◌∷◌, ◌++◌, length, map, drop, refl, ap, arith}
use Rattle.std.specs.Prelude.{Option, Some, option_map, nat_le, true}
use Rattle.std.specs.List.{AllByRecursion}
use Rattle.std.proofs.lemmas.Bool.{le-leb}
use Rattle.byteorder.specs.Numbers.{big_number-reads_back}
use Rattle.sctp_model.specs.numbers.Lists.{joined}
use Rattle.sctp_model.specs.numbers.Numbers.{u16_bytes, u32_bytes, u16_at, u32_at}
use Rattle.sctp_model.specs.wire.Typed.{Typed, WritesTyped}
use Rattle.sctp_model.specs.wire.Reconfig.{ResetMeaning, ResetResult, Performed, Denied, WrongStream, BadNumber, InProgress, result_code, reset_item, response_item, u16s_in}
use Rattle.sctp_model.proofs.TypedLemmas.{typed_of-reads}
use Rattle.sctp_model.proofs.TypedWriting.{reads_writes_typed}
use Rattle.sctp_reconfig.specs.Reading.{ResetRequested, Responded, parameter_read, parameters_of}
use Rattle.sctp_reconfig.specs.Laws.{IsReset}

-- the first number and those behind it
pub u16s_in-some : (bytes : List ℕ) → 2 ≤ length bytes → u16s_in bytes ≡ u16_at bytes ∷ u16s_in (drop 2 bytes)
unfolding u16_at
u16s_in-some [] long = absurd (omega arith)
u16s_in-some (a ∷ []) long = absurd (omega arith)
u16s_in-some (a ∷ b ∷ rest) long = refl

-- how many there are
pub u16s_in-length : (bytes : List ℕ) → length (u16s_in bytes) ≡ length bytes / 2
u16s_in-length [] = refl
u16s_in-length (a ∷ []) = refl
u16s_in-length (a ∷ b ∷ rest) = let more = u16s_in-length rest in omega (arith, more)

-- numbers of 16 bits are read back
u16s_in-joined : (xs : List ℕ) → AllByRecursion (λ x. x < 2 ^ 16) xs → u16s_in (joined (map u16_bytes xs)) ≡ xs
unfolding u16_bytes
u16s_in-joined [] all = refl
u16s_in-joined (x ∷ xs) (small, all) =
    let same : x / 256 % 256 * 256 + x % 256 ≡ x = omega arith in rw (same, u16s_in-joined xs all) refl

-- a number of 32 bits is read back
u32_at-bytes : (n : ℕ) (rest : List ℕ) → n < 2 ^ 32 → u32_at (u32_bytes n ++ rest) ≡ n
unfolding u32_bytes u32_at
u32_at-bytes n rest h = omega (arith, big_number-reads_back 4 n rest h)

u32_at-alone : (n : ℕ) → n < 2 ^ 32 → u32_at (u32_bytes n) ≡ n
unfolding u32_bytes u32_at
u32_at-alone n h = omega (arith, big_number-reads_back 4 n [] h)

-- what stands behind one, two and three of them
behind_one : (a : ℕ) (rest : List ℕ) → drop 4 (u32_bytes a ++ rest) ≡ rest
unfolding u32_bytes
behind_one a rest = refl

behind_two : (a b : ℕ) (rest : List ℕ) → drop 8 (u32_bytes a ++ (u32_bytes b ++ rest)) ≡ rest
unfolding u32_bytes
behind_two a b rest = refl

behind_three : (a b c : ℕ) (rest : List ℕ) → drop 12 (u32_bytes a ++ (u32_bytes b ++ (u32_bytes c ++ rest))) ≡ rest
unfolding u32_bytes
behind_three a b c rest = refl

-- what is written for a list of parameters is read as its items
pub lists_read : (bytes : List ℕ) (items : List Typed) → WritesTyped bytes items → parameters_of bytes ≡ Some (map parameter_read items)
lists_read bytes items w = ap (λ (o : Option (List Typed)). option_map (map parameter_read) o) (typed_of-reads bytes items (reads_writes_typed bytes items w))

-- ---- a request

reset_is_long : (answered : ℕ) (m : ResetMeaning) → nat_le 12 (length (reset_item answered m).value) ≡ true
unfolding u32_bytes
reset_is_long answered m = le-leb 12 _ (omega arith)

pub reset_is_read : (answered : ℕ) (m : ResetMeaning) → IsReset m → parameter_read (reset_item answered m) ≡ ResetRequested m
reset_is_read answered m fits =
    let streams = joined (map u16_bytes m.streams) in
    let last = u32_bytes m.last ++ streams in
    rw (
      reset_is_long answered m,
      u32_at-bytes m.number (u32_bytes answered ++ last) fits.number,
      behind_two m.number answered last,
      u32_at-bytes m.last streams fits.last,
      behind_three m.number answered m.last streams,
      u16s_in-joined m.streams fits.streams,
    ) refl

-- ---- a response

response_is_long : (number : ℕ) (a : ResetResult) → nat_le 8 (length (response_item number a).value) ≡ true
unfolding u32_bytes
response_is_long number a = refl

code_fits : (a : ResetResult) → result_code a < 2 ^ 32
code_fits Performed = omega arith
code_fits Denied = omega arith
code_fits WrongStream = omega arith
code_fits BadNumber = omega arith
code_fits InProgress = omega arith

pub response_is_read : (number : ℕ) (a : ResetResult) → number < 2 ^ 32 → parameter_read (response_item number a) ≡ Responded number (result_code a)
response_is_read number a fits =
    let code = u32_bytes (result_code a) in
    rw (response_is_long number a, u32_at-bytes number code fits, behind_one number code, u32_at-alone (result_code a) (code_fits a)) refl
