-- The checksum by long division is the one number that the definition allows, and the register leaves it.
use Rattle.std.proofs.Common.{◌≡◌, ℕ, zero, suc, ◌+◌, ◌-◌, ◌^◌, ◌<◌, ◌≤◌, ◌/◌, ◌%◌, Bool, true, false, not, cond, nat_eq, bit_xor, List, [], ◌∷◌, ◌++◌, length, take, drop, get_or, replicate, eq-eqb, append-nil, refl, sym, ap, subst, ◌∙◌, arith, length-append}
use Rattle.std.proofs.lemmas.List.{take_more, take-append-drop}
use Rattle.std.proofs.lemmas.List.Concat.{flat_map-append}
use Rattle.std.proofs.lemmas.Bool.{ne_eqb}
use Rattle.sctp_packet.specs.Remainder.{zeros, add, divide, remainder, IsRemainder}
use Rattle.sctp_packet.specs.Checksum.{bits, number, divisor, message_bits, flip_first, dividend, sent_as, IsChecksum, crc32c}
use Rattle.sctp_packet.specs.Register.{shifted, register_after}
use Rattle.sctp_packet.proofs.DivisionLaws.{remainder_only, remainder_is}
use Rattle.sctp_packet.proofs.RegisterLemmas.{register_is_remainder, steps_at_once, register_after-append}
use Rattle.sctp_packet.proofs.BitLemmas.{length_bits, bits_xor, bits_above, number_bits, bits_not, step_of}

-- the divisor without its first coefficient, as the body has it: the highest power in the lowest bit
pub tail_is : bits 32 0x82F63B78 ≡ drop 1 divisor
unfolding bits divisor
tail_is = refl

pub length_tail : length (drop 1 divisor) ≡ 32
unfolding bits divisor
length_tail = refl

pub divisor_is : divisor ≡ true ∷ drop 1 divisor
unfolding divisor
divisor_is = refl

-- ---- the dividend

-- to flip the first bits is to add ones there
flip_is_add : (k j : ℕ) (f : List Bool) → length f ≡ k + j → flip_first k f ≡ add (replicate k true ++ zeros j) f
flip_is_add zero zero [] e = refl
flip_is_add zero (suc j) [] e = absurd (omega arith)
flip_is_add zero zero (b ∷ f) e = absurd (omega arith)
flip_is_add zero (suc j) (b ∷ f) e = ap (λ (x : List Bool). b ∷ x) (flip_is_add zero j f (omega arith))
flip_is_add (suc k) j [] e = absurd (omega arith)
flip_is_add (suc k) j (b ∷ f) e = ap (λ (x : List Bool). not b ∷ x) (flip_is_add k j f (omega arith))

length_flip : (k : ℕ) (f : List Bool) → length (flip_first k f) ≡ length f
length_flip zero f = refl
length_flip (suc k) [] = refl
length_flip (suc k) (b ∷ f) = ap suc (length_flip k f)

length_dividend : (bytes : List ℕ) → length (dividend bytes) ≡ length (message_bits bytes) + 32
length_dividend bytes = length_flip 32 (message_bits bytes ++ zeros 32) ∙ length-append (message_bits bytes) (zeros 32)

-- ---- one checksum

pub checksum_is : (bytes : List ℕ) → IsChecksum bytes (crc32c bytes)
unfolding crc32c
checksum_is bytes =
    let fits : length (drop 1 divisor) ≤ length (dividend bytes) = omega (arith, length_tail, length_dividend bytes) in
    let P : List Bool → Type 0 = λ g. IsRemainder (dividend bytes) g (remainder g (dividend bytes)) in
    record { rest = remainder divisor (dividend bytes); remains = subst P (sym divisor_is) (remainder_is (drop 1 divisor) (dividend bytes) fits); sent = refl }

pub checksum_only : (bytes : List ℕ) (sum : ℕ) → IsChecksum bytes sum → sum ≡ crc32c bytes
unfolding crc32c
checksum_only bytes sum h =
    let only : h.rest ≡ remainder (true ∷ drop 1 divisor) (dividend bytes) =
    remainder_only (drop 1 divisor) (dividend bytes) h.rest (subst (λ (g : List Bool). IsRemainder (dividend bytes) g h.rest) divisor_is h.remains) in
    h.sent ∙ ap sent_as (only ∙ ap (λ (g : List Bool). remainder g (dividend bytes)) (sym divisor_is))

-- ---- the register leaves it

remainder_by_register : (bytes : List ℕ) → remainder divisor (dividend bytes) ≡ register_after (drop 1 divisor) (replicate 32 true) (message_bits bytes)
remainder_by_register bytes =
    let tail : List Bool = drop 1 divisor in
    let ms : List Bool = message_bits bytes in
    let whole : length (dividend bytes) ≡ length ms + 32 = length_dividend bytes in
    let thirty_two : length tail ≡ 32 = length_tail in
    let steps : length (dividend bytes) - length tail ≡ length ms = omega arith in
    let flipped : dividend bytes ≡ add (replicate 32 true ++ zeros (length ms)) (ms ++ zeros 32) =
    flip_is_add 32 (length ms) (ms ++ zeros 32) (length-append ms (zeros 32) ∙ omega arith) in
    ap (λ (g : List Bool). remainder g (dividend bytes)) divisor_is
    ∙ (ap (λ (n : ℕ). divide n (true ∷ tail) (dividend bytes)) steps
    ∙ (ap (λ (x : List Bool). divide (length ms) (true ∷ tail) x) flipped
    ∙ (ap (λ (n : ℕ). divide (length ms) (true ∷ tail) (add (replicate 32 true ++ zeros (length ms)) (ms ++ zeros n))) (sym thirty_two)
    ∙ register_is_remainder tail (replicate 32 true) ms (sym thirty_two) (omega arith))))

pub checksum_of_register : (bytes : List ℕ) (register : ℕ) → register < 2 ^ 32
    → bits 32 register ≡ register_after (drop 1 divisor) (replicate 32 true) (message_bits bytes) → 2 ^ 32 - 1 - register ≡ crc32c bytes
unfolding crc32c
checksum_of_register bytes register small e =
    let rest : bits 32 register ≡ remainder divisor (dividend bytes) = e ∙ sym (remainder_by_register bytes) in
    sym (number_bits 32 (2 ^ 32 - 1 - register) (omega arith))
    ∙ (ap number (bits_not 32 register small) ∙ ap sent_as rest)

-- ---- the body's steps

pub ones_is : bits 32 0xFFFF_FFFF ≡ replicate 32 true
unfolding bits
ones_is = refl

abbrev next : Bool → ℕ → ℕ
next lowest register = cond lowest (bit_xor (register / 2) 0x82F63B78) (register / 2)

step_by : (register : ℕ) (lowest : Bool) → register < 2 ^ 32 → nat_eq (register % 2) 1 ≡ lowest
    → bits 32 (next lowest register) ≡ shifted (drop 1 divisor) (bits 32 register) false
step_by register lowest small e =
    ap (λ (b : Bool). bits 32 (next b register)) (sym e)
    ∙ (step_of 31 0x82F63B78 register small ∙ ap (λ (tail : List Bool). shifted tail (bits 32 register) false) tail_is)

pub step_odd : (register : ℕ) → register < 2 ^ 32 → register % 2 ≡ 1
    → bits 32 (bit_xor (register / 2) 0x82F63B78) ≡ shifted (drop 1 divisor) (bits 32 register) false
step_odd register small odd = step_by register true small (eq-eqb (register % 2) 1 odd)

pub step_even : (register : ℕ) → register < 2 ^ 32 → (register % 2 ≡ 1 → ⊥)
    → bits 32 (register / 2) ≡ shifted (drop 1 divisor) (bits 32 register) false
step_even register small even = step_by register false small (ne_eqb (register % 2) 1 even)

-- a byte is eight single steps, once its bits are added to the register
pub byte_is_eight_steps : (register byte : ℕ) → byte < 2 ^ 8
    → register_after (drop 1 divisor) (bits 32 (bit_xor register byte)) (zeros 8) ≡ register_after (drop 1 divisor) (bits 32 register) (bits 8 byte)
byte_is_eight_steps register byte small =
    let tail : List Bool = drop 1 divisor in
    let added : bits 32 (bit_xor register byte) ≡ add (bits 32 register) (bits 8 byte ++ zeros 24) =
    bits_xor 32 register byte ∙ ap (λ (x : List Bool). add (bits 32 register) x) (bits_above 8 24 32 byte refl small) in
    ap (λ (x : List Bool). register_after tail x (zeros 8)) added
    ∙ (ap (λ (n : ℕ). register_after tail (add (bits 32 register) (bits 8 byte ++ zeros 24)) (zeros n)) (sym (length_bits 8 byte))
    ∙ steps_at_once tail (bits 32 register) (bits 8 byte) 24
    (length_bits 32 register ∙ sym length_tail)
    (omega (arith, length_bits 32 register, length_bits 8 byte)))

-- one byte more
pub register_after_byte : (rs : List Bool) (bytes : List ℕ) (i : ℕ) → i < length bytes
    → register_after (drop 1 divisor) rs (message_bits (take (i + 1) bytes))
    ≡ register_after (drop 1 divisor) (register_after (drop 1 divisor) rs (message_bits (take i bytes))) (bits 8 (get_or bytes i 0))
register_after_byte rs bytes i within =
    let more : message_bits (take (i + 1) bytes) ≡ message_bits (take i bytes) ++ bits 8 (get_or bytes i 0) =
    ap message_bits (take_more bytes i 0 within)
    ∙ (flat_map-append (bits 8) (take i bytes) (get_or bytes i 0 ∷ [])
    ∙ ap (λ (x : List Bool). message_bits (take i bytes) ++ x) (append-nil (bits 8 (get_or bytes i 0)))) in
    ap (λ (x : List Bool). register_after (drop 1 divisor) rs x) more
    ∙ register_after-append (drop 1 divisor) rs (message_bits (take i bytes)) (bits 8 (get_or bytes i 0))

-- bytes in two parts
pub register_after_joined : (rs : List Bool) (xs ys : List ℕ)
    → register_after (drop 1 divisor) (register_after (drop 1 divisor) rs (message_bits xs)) (message_bits ys) ≡ register_after (drop 1 divisor) rs (message_bits (xs ++ ys))
register_after_joined rs xs ys =
    sym (register_after-append (drop 1 divisor) rs (message_bits xs) (message_bits ys))
    ∙ ap (λ (x : List Bool). register_after (drop 1 divisor) rs x) (sym (flat_map-append (bits 8) xs ys))

pub register_after_parts : (rs : List Bool) (bytes : List ℕ) (n : ℕ)
    → register_after (drop 1 divisor) (register_after (drop 1 divisor) rs (message_bits (take n bytes))) (message_bits (drop n bytes))
    ≡ register_after (drop 1 divisor) rs (message_bits bytes)
register_after_parts rs bytes n =
    register_after_joined rs (take n bytes) (drop n bytes)
    ∙ ap (λ (x : List ℕ). register_after (drop 1 divisor) rs (message_bits x)) (take-append-drop n bytes)

-- the checksum of bytes in three parts, each begun with the register that the one before it left
pub checksum_of_parts : (xs ys zs : List ℕ) (r s t : ℕ) → bits 32 r ≡ register_after (drop 1 divisor) (bits 32 0xFFFF_FFFF) (message_bits xs)
    → bits 32 s ≡ register_after (drop 1 divisor) (bits 32 r) (message_bits ys) → bits 32 t ≡ register_after (drop 1 divisor) (bits 32 s) (message_bits zs)
    → t < 2 ^ 32 → 2 ^ 32 - 1 - t ≡ crc32c (xs ++ (ys ++ zs))
checksum_of_parts xs ys zs r s t first second third small =
    let tail = drop 1 divisor in
    let ones = replicate 32 true in
    let after_first : bits 32 r ≡ register_after tail ones (message_bits xs) = first ∙ ap (λ (x : List Bool). register_after tail x (message_bits xs)) ones_is in
    checksum_of_register (xs ++ (ys ++ zs)) t small
    (third
    ∙ (ap (λ (x : List Bool). register_after tail x (message_bits zs)) second
    ∙ (register_after_joined (bits 32 r) ys zs
    ∙ (ap (λ (x : List Bool). register_after tail x (message_bits (ys ++ zs))) after_first
    ∙ register_after_joined ones xs (ys ++ zs)))))
