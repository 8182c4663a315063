-- The register as a number and as bits: after zero bits, and after bytes.
use Rattle.std.proofs.Common.{◌≡◌, ℕ, zero, suc, ◌+◌, ◌-◌, ◌*◌, ◌/◌, ◌%◌, ◌^◌, ◌<◌, ◌≤◌, Bool, true, false, nat_eq, cond, bit_xor, lit<, List, ◌∷◌, ◌++◌, length, take, drop, replicate, get_or, refl, sym, ap, subst, ◌∙◌, arith, append_assoc, length-append, drop-cons}
use Rattle.std.specs.Int.Bits.{xor_assoc, xor_zero_l, xor_zero_r}
use Rattle.std.proofs.lemmas.Nat.{xor_lt, xor_comm, xor_block}
use Rattle.std.proofs.lemmas.List.{length-replicate, take_all, get_or-drop}
use Rattle.byteorder.specs.Endian.{little_from, little_number}
use Rattle.sctp_packet.specs.Remainder.{zeros, add, divide, remainder}
use Rattle.sctp_packet.specs.Checksum.{bits, divisor, message_bits}
use Rattle.sctp_packet.specs.Register.{shifted, register_after}
use Rattle.sctp_packet.specs.Tables.{taken_away, step, steps, IsEntry}
use Rattle.sctp_packet.proofs.AddLemmas.{add_zeros}
use Rattle.sctp_packet.proofs.BitLemmas.{length_bits, bits_above, step_of}
use Rattle.sctp_packet.proofs.RegisterLemmas.{register_is_remainder, register_after-append}
use Rattle.sctp_packet.proofs.ChecksumLaws.{tail_is, length_tail, divisor_is, byte_is_eight_steps, register_after_joined}
use Rattle.sctp_packet.proofs.StepLemmas.{steps_sum, steps_then, steps_down, byte_apart}

-- ---- zero bits

away_small : (lowest : Bool) → cond lowest 0x82F6_3B78 0 < 2 ^ 32
away_small true = lit< tt
away_small false = lit< tt

away_or_not : (lowest : Bool) (a : ℕ) → bit_xor a (cond lowest 0x82F6_3B78 0) ≡ cond lowest (bit_xor a 0x82F6_3B78) a
away_or_not true a = refl
away_or_not false a = xor_zero_r a

step_small : (a : ℕ) → a < 2 ^ 32 → step a < 2 ^ 32
unfolding step
step_small a small = xor_lt 32 (a / 2) (taken_away (a % 2)) (omega arith) (away_small (nat_eq (a % 2) 1))

step_bits : (a : ℕ) → a < 2 ^ 32 → bits 32 (step a) ≡ shifted (drop 1 divisor) (bits 32 a) false
unfolding step
step_bits a small =
    ap (bits 32) (away_or_not (nat_eq (a % 2) 1) (a / 2))
    ∙ (step_of 31 0x82F6_3B78 a small ∙ ap (λ (tail : List Bool). shifted tail (bits 32 a) false) tail_is)

pub steps_small : (n a : ℕ) → a < 2 ^ 32 → steps n a < 2 ^ 32
unfolding steps
steps_small zero a small = small
steps_small (suc n) a small = steps_small n (step a) (step_small a small)

pub steps_bits : (n a : ℕ) → a < 2 ^ 32 → bits 32 (steps n a) ≡ register_after (drop 1 divisor) (bits 32 a) (zeros n)
unfolding steps
steps_bits zero a small = refl
steps_bits (suc n) a small =
    steps_bits n (step a) (step_small a small) ∙ ap (λ (x : List Bool). register_after (drop 1 divisor) x (zeros n)) (step_bits a small)

-- ---- what a table has is a remainder

zeros_more : (n m : ℕ) → zeros n ++ zeros m ≡ zeros (n + m)
zeros_more zero m = let none : m ≡ 0 + m = omega arith in ap zeros none
zeros_more (suc n) m =
    let first : suc (n + m) ≡ suc n + m = omega arith in
    ap (λ (x : List Bool). false ∷ x) (zeros_more n m) ∙ ap zeros first

-- a number of 32 bits with zeros behind it, divided
divided : (n a : ℕ) → register_after (drop 1 divisor) (bits 32 a) (zeros n) ≡ remainder divisor (bits 32 a ++ zeros n)
divided n a =
    let tail : List Bool = drop 1 divisor in
    let long : length (bits 32 a ++ zeros n) ≡ 32 + n = length-append (bits 32 a) (zeros n) ∙ omega (arith, length_bits 32 a, length-replicate n false) in
    let steps_left : length (bits 32 a ++ zeros n) - length tail ≡ n = omega (arith, length_tail) in
    let count : length (zeros n) ≡ n = length-replicate n false in
    let added : add (bits 32 a ++ zeros n) (zeros n ++ zeros (length tail)) ≡ bits 32 a ++ zeros n =
    ap (λ (x : List Bool). add (bits 32 a ++ zeros n) x) (zeros_more n (length tail)) ∙ add_zeros (bits 32 a ++ zeros n) (n + length tail) (omega (arith, length_tail)) in
    sym
    (ap (λ (k : ℕ). divide k divisor (bits 32 a ++ zeros n)) steps_left
    ∙ (ap (λ (g : List Bool). divide n g (bits 32 a ++ zeros n)) divisor_is
    ∙ (ap (λ (x : List Bool). divide n (true ∷ tail) x) (sym added)
    ∙ subst (λ (k : ℕ). divide k (true ∷ tail) (add (bits 32 a ++ zeros k) (zeros n ++ zeros (length tail))) ≡ register_after tail (bits 32 a) (zeros n)) count
    (register_is_remainder tail (bits 32 a) (zeros n) (length_bits 32 a ∙ sym length_tail) (omega (arith, length_tail))))))

pub entry_divides : (place byte : ℕ) → byte < 256 → IsEntry place byte (steps (8 * place + 8) byte)
entry_divides place byte small =
    let n = 8 * place + 8 in
    let count : 24 + n ≡ 8 * place + 32 = omega arith in
    let wide : bits 32 byte ++ zeros n ≡ bits 8 byte ++ zeros (8 * place + 32) =
    ap (λ (x : List Bool). x ++ zeros n) (bits_above 8 24 32 byte refl small)
    ∙ (append_assoc (bits 8 byte) (zeros 24) (zeros n)
    ∙ ap (λ (x : List Bool). bits 8 byte ++ x) (zeros_more 24 n ∙ ap zeros count)) in
    steps_bits n byte (omega arith) ∙ (divided n byte ∙ ap (remainder divisor) wide)

-- ---- bytes

pub byte_bits : (register byte : ℕ) → register < 2 ^ 32 → byte < 256
    → bits 32 (steps 8 (bit_xor register byte)) ≡ register_after (drop 1 divisor) (bits 32 register) (bits 8 byte)
byte_bits register byte small low =
    steps_bits 8 (bit_xor register byte) (xor_lt 32 register byte small (omega arith)) ∙ byte_is_eight_steps register byte low

-- the register after n bytes from the i-th on, one at a time
after_from : ℕ → ℕ → List ℕ → ℕ → ℕ
after_from zero i xs register = register
after_from (suc n) i xs register = after_from n (suc i) xs (steps 8 (bit_xor register (get_or xs i 0)))

-- the bytes as one number, the lowest first, may be added to the register at once
at_once : (n i : ℕ) (xs : List ℕ) (register : ℕ) → ((k : ℕ) → get_or xs k 0 < 256) → steps (8 * n) (bit_xor register (little_from i n xs)) ≡ after_from n i xs register
unfolding after_from steps
at_once zero i xs register bytes = xor_zero_r register
at_once (suc n) i xs register bytes =
    let b = get_or xs i 0 in
    let later = little_from (suc i) n xs in
    let first : steps 8 (b + 256 * later) ≡ bit_xor later (steps 8 b) = byte_apart 0 later b (bytes i) in
    let turn : steps 8 (bit_xor register (b + 256 * later)) ≡ bit_xor (steps 8 (bit_xor register b)) later =
    steps_sum 8 register (b + 256 * later)
    ∙ (ap (bit_xor (steps 8 register)) (first ∙ xor_comm later (steps 8 b))
    ∙ (sym (xor_assoc (steps 8 register) (steps 8 b) later) ∙ ap (λ (x : ℕ). bit_xor x later) (sym (steps_sum 8 register b)))) in
    let count : 8 * suc n ≡ 8 + 8 * n = omega arith in
    ap (λ (k : ℕ). steps k (bit_xor register (b + 256 * later))) count
    ∙ (steps_then 8 (8 * n) (bit_xor register (b + 256 * later))
    ∙ (ap (steps (8 * n)) turn ∙ at_once n (suc i) xs (steps 8 (bit_xor register b)) bytes))

one_at_a_time : (n i : ℕ) (xs : List ℕ) (register : ℕ) → ((k : ℕ) → get_or xs k 0 < 256) → register < 2 ^ 32 → i + n ≤ length xs
    → bits 32 (after_from n i xs register) ≡ register_after (drop 1 divisor) (bits 32 register) (message_bits (take n (drop i xs)))
unfolding after_from
one_at_a_time zero i xs register bytes small within = refl
one_at_a_time (suc n) i xs register bytes small within =
    let b = get_or xs i 0 in
    let low : b < 256 = bytes i in
    let there : i < length xs = omega arith in
    let cut : take (suc n) (drop i xs) ≡ b ∷ take n (drop (suc i) xs) = ap (take (suc n)) (drop-cons xs i 0 there) in
    let next : steps 8 (bit_xor register b) < 2 ^ 32 = steps_small 8 (bit_xor register b) (xor_lt 32 register b small (omega arith)) in
    one_at_a_time n (suc i) xs (steps 8 (bit_xor register b)) bytes next (omega arith)
    ∙ (ap (λ (x : List Bool). register_after (drop 1 divisor) x (message_bits (take n (drop (suc i) xs)))) (byte_bits register b small low)
    ∙ (sym (register_after-append (drop 1 divisor) (bits 32 register) (bits 8 b) (message_bits (take n (drop (suc i) xs))))
    ∙ ap (λ (x : List ℕ). register_after (drop 1 divisor) (bits 32 register) (message_bits x)) (sym cut)))

pub eight_bits : (register : ℕ) (xs : List ℕ) → ((k : ℕ) → get_or xs k 0 < 256) → register < 2 ^ 32 → 8 ≤ length xs
    → bits 32 (steps 64 (bit_xor register (little_number 8 xs))) ≡ register_after (drop 1 divisor) (bits 32 register) (message_bits (take 8 xs))
eight_bits register xs bytes small within = ap (bits 32) (at_once 8 0 xs register bytes) ∙ one_at_a_time 8 0 xs register bytes small within

after_small : (n i : ℕ) (xs : List ℕ) (register : ℕ) → ((k : ℕ) → get_or xs k 0 < 256) → register < 2 ^ 32 → after_from n i xs register < 2 ^ 32
unfolding after_from
after_small zero i xs register bytes small = small
after_small (suc n) i xs register bytes small =
    let b = get_or xs i 0 in
    after_small n (suc i) xs (steps 8 (bit_xor register b)) bytes (steps_small 8 (bit_xor register b) (xor_lt 32 register b small (omega (arith, bytes i))))

four_zeros : zeros 32 ≡ message_bits (replicate 4 0)
unfolding bits
four_zeros = refl

-- eight bytes, and four zeros behind them
pub header_bits : (register : ℕ) (xs : List ℕ) → ((k : ℕ) → get_or xs k 0 < 256) → register < 2 ^ 32 → 8 ≤ length xs
    → bits 32 (steps 96 (bit_xor register (little_number 8 xs))) ≡ register_after (drop 1 divisor) (bits 32 register) (message_bits (take 8 xs ++ replicate 4 0))
header_bits register xs bytes small within =
    let tail : List Bool = drop 1 divisor in
    let first = bit_xor register (little_number 8 xs) in
    let low : steps 64 first < 2 ^ 32 = subst (λ (n : ℕ). n < 2 ^ 32) (sym (at_once 8 0 xs register bytes)) (after_small 8 0 xs register bytes small) in
    ap (bits 32) (steps_then 64 32 first)
    ∙ (steps_bits 32 (steps 64 first) low
    ∙ (ap (λ (x : List Bool). register_after tail x (zeros 32)) (eight_bits register xs bytes small within)
    ∙ (ap (register_after tail (register_after tail (bits 32 register) (message_bits (take 8 xs)))) four_zeros
    ∙ register_after_joined (bits 32 register) (take 8 xs) (replicate 4 0))))

-- the number of bytes further on
pub number_behind : (n i j : ℕ) (xs : List ℕ) → little_from i n (drop j xs) ≡ little_from (j + i) n xs
number_behind zero i j xs = refl
number_behind (suc n) i j xs =
    let next : j + suc i ≡ suc (j + i) = omega arith in
    rw (get_or-drop j xs i 0, number_behind n (suc i) j xs, next) refl

-- two words, of which the first has the register added, and eight bytes follow it
pub sixteen_bits : (register : ℕ) (xs : List ℕ) → ((k : ℕ) → get_or xs k 0 < 256) → register < 2 ^ 32 → 16 ≤ length xs
    → bits 32 (bit_xor (steps 128 (bit_xor register (little_from 0 8 xs))) (steps 64 (little_from 8 8 xs))) ≡ register_after (drop 1 divisor) (bits 32 register) (message_bits (take 16 xs))
sixteen_bits register xs bytes small within =
    let first = little_from 0 8 xs in
    let second = little_from 8 8 xs in
    let over : steps 128 (second * 2 ^ 64) ≡ steps 64 second = steps_then 64 64 (second * 2 ^ 64) ∙ ap (steps 64) (steps_down 64 second) in
    let whole : bit_xor register (little_number 16 xs) ≡ bit_xor (bit_xor register first) (second * 2 ^ 64) = words_apart register first second (little_number 16 xs) (omega arith) (omega (arith, bytes 0, bytes 1, bytes 2, bytes 3, bytes 4, bytes 5, bytes 6, bytes 7)) in
    let sum : steps 128 (bit_xor register (little_number 16 xs)) ≡ bit_xor (steps 128 (bit_xor register first)) (steps 64 second) =
    ap (steps 128) whole ∙ (steps_sum 128 (bit_xor register first) (second * 2 ^ 64) ∙ ap (bit_xor (steps 128 (bit_xor register first))) over) in
    ap (bits 32) (sym sum) ∙ (ap (bits 32) (at_once 16 0 xs register bytes) ∙ one_at_a_time 16 0 xs register bytes small within)
  where
    words_apart : (r a b n : ℕ) → n ≡ a + 2 ^ 64 * b → a < 2 ^ 64 → bit_xor r n ≡ bit_xor (bit_xor r a) (b * 2 ^ 64)
    words_apart r a b n is low =
        let block = xor_block 64 b 0 0 a (omega arith) low in
        let left : b * 2 ^ 64 + 0 ≡ b * 2 ^ 64 = omega arith in
        let right : 0 * 2 ^ 64 + a ≡ a = omega arith in
        let apart : n ≡ bit_xor a (b * 2 ^ 64) =
        (let z = xor_zero_r b in let w = xor_zero_l a in let joined : bit_xor b 0 * 2 ^ 64 + bit_xor 0 a ≡ n = omega (arith, is, z, w) in sym joined ∙ sym (rw (left, right) at block)) ∙ xor_comm (b * 2 ^ 64) a in
        ap (bit_xor r) apart ∙ sym (xor_assoc r a (b * 2 ^ 64))

-- a whole run, added to the register at once
pub run_bits : (register : ℕ) (xs : List ℕ) (n : ℕ) → ((k : ℕ) → get_or xs k 0 < 256) → register < 2 ^ 32 → length xs ≡ n
    → bits 32 (steps (8 * n) (bit_xor register (little_number n xs))) ≡ register_after (drop 1 divisor) (bits 32 register) (message_bits xs)
run_bits register xs n bytes small long =
    ap (bits 32) (at_once n 0 xs register bytes)
    ∙ (one_at_a_time n 0 xs register bytes small (omega (arith, long)) ∙ ap (λ (l : List ℕ). register_after (drop 1 divisor) (bits 32 register) (message_bits l)) (take_all n xs (omega (arith, long))))
