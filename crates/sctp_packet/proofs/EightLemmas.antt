-- Eight bytes to which a register is added: it reaches the first four, and the others are as they were.
use Rattle.std.proofs.Common.{◌≡◌, ℕ, ◌+◌, ◌*◌, ◌/◌, ◌%◌, ◌^◌, ◌<◌, List, bit_xor, refl, sym, ap, ◌∙◌, arith}
use Rattle.std.specs.Prelude.{slice_index}
use Rattle.std.specs.Int.Bits.{xor_zero_l}
use Rattle.std.proofs.lemmas.Nat.{xor_block, xor_lt}
use Rattle.byteorder.specs.Endian.{little_number, little_from}
use Rattle.sctp_packet.specs.Tables.{steps}
use Rattle.sctp_packet.proofs.StepLemmas.{eight_left, eight_apart}

-- the register and the first four bytes, with the last four above
mixed_is : (r : ℕ) (bytes : List ℕ) → r < 2 ^ 32 → ((k : ℕ) → slice_index bytes k < 256)
    → bit_xor r (little_number 8 bytes) ≡ bit_xor r (little_number 4 bytes) + 2 ^ 32 * little_from 4 4 bytes
mixed_is r bytes low ranged =
    let first = little_number 4 bytes in
    let last = little_from 4 4 bytes in
    let split : little_number 8 bytes ≡ last * 2 ^ 32 + first = omega arith in
    let alone : r ≡ 0 * 2 ^ 32 + r = omega arith in
    let small : first < 2 ^ 32 = omega (arith, ranged 0, ranged 1, ranged 2, ranged 3) in
    let sum : bit_xor (0 * 2 ^ 32 + r) (last * 2 ^ 32 + first) ≡ bit_xor 0 last * 2 ^ 32 + bit_xor r first = xor_block 32 0 last r first low small in
    let above : bit_xor 0 last ≡ last = xor_zero_l last in
    ap (λ (x : ℕ). bit_xor x (little_number 8 bytes)) alone ∙ ap (bit_xor (0 * 2 ^ 32 + r)) split ∙ sum ∙ omega (arith, above)

-- what each of them leaves, where m zero bits follow
pub eight_left_by : (m r : ℕ) (bytes : List ℕ) (mixed : ℕ) → r < 2 ^ 32 → ((k : ℕ) → slice_index bytes k < 256) → mixed ≡ bit_xor r (little_number 4 bytes)
    → bit_xor (bit_xor (bit_xor (bit_xor (bit_xor (bit_xor (bit_xor (steps (8 + m) (slice_index bytes 7)) (steps (8 + (8 + m)) (slice_index bytes 6))) (steps (8 + (16 + m)) (slice_index bytes 5)))
    (steps (8 + (24 + m)) (slice_index bytes 4))) (steps (8 + (32 + m)) (mixed / 2 ^ 24))) (steps (8 + (40 + m)) (mixed / 2 ^ 16 % 256))) (steps (8 + (48 + m)) (mixed / 2 ^ 8 % 256))) (steps (8 + (56 + m)) (mixed % 256))
    ≡ eight_left m (bit_xor r (little_number 8 bytes))
eight_left_by m r bytes mixed low ranged e =
    let all = bit_xor r (little_number 8 bytes) in
    let whole : all ≡ mixed + 2 ^ 32 * little_from 4 4 bytes = mixed_is r bytes low ranged ∙ ap (λ (x : ℕ). x + 2 ^ 32 * little_from 4 4 bytes) (sym e) in
    let first : little_number 4 bytes < 2 ^ 32 = omega (arith, ranged 0, ranged 1, ranged 2, ranged 3) in
    let small : mixed < 2 ^ 32 = rw e (xor_lt 32 r (little_number 4 bytes) low first) in
    let b4 = ranged 4 in
    let b5 = ranged 5 in
    let b6 = ranged 6 in
    let b7 = ranged 7 in
    let at_7 : all / 2 ^ 56 ≡ slice_index bytes 7 = omega arith in
    let at_6 : all / 2 ^ 48 % 256 ≡ slice_index bytes 6 = omega arith in
    let at_5 : all / 2 ^ 40 % 256 ≡ slice_index bytes 5 = omega arith in
    let at_4 : all / 2 ^ 32 % 256 ≡ slice_index bytes 4 = omega arith in
    let at_3 : all / 2 ^ 24 % 256 ≡ mixed / 2 ^ 24 = omega arith in
    let at_2 : all / 2 ^ 16 % 256 ≡ mixed / 2 ^ 16 % 256 = omega arith in
    let at_1 : all / 2 ^ 8 % 256 ≡ mixed / 2 ^ 8 % 256 = omega arith in
    let at_0 : all % 256 ≡ mixed % 256 = omega arith in
    rw (at_7, at_6, at_5, at_4, at_3, at_2, at_1, at_0) refl

-- what each of them leaves, where no register is added and nothing follows
pub eight_alone : (bytes : List ℕ) → ((k : ℕ) → slice_index bytes k < 256)
    → bit_xor (bit_xor (bit_xor (bit_xor (bit_xor (bit_xor (bit_xor (steps 8 (slice_index bytes 7)) (steps 16 (slice_index bytes 6))) (steps 24 (slice_index bytes 5)))
    (steps 32 (slice_index bytes 4))) (steps 40 (slice_index bytes 3))) (steps 48 (slice_index bytes 2))) (steps 56 (slice_index bytes 1))) (steps 64 (slice_index bytes 0))
    ≡ steps 64 (little_number 8 bytes)
eight_alone bytes ranged =
    let all = little_number 8 bytes in
    let b0 = ranged 0 in
    let b1 = ranged 1 in
    let b2 = ranged 2 in
    let b3 = ranged 3 in
    let b4 = ranged 4 in
    let b5 = ranged 5 in
    let b6 = ranged 6 in
    let b7 = ranged 7 in
    let at_7 : all / 2 ^ 56 ≡ slice_index bytes 7 = omega arith in
    let at_6 : all / 2 ^ 48 % 256 ≡ slice_index bytes 6 = omega arith in
    let at_5 : all / 2 ^ 40 % 256 ≡ slice_index bytes 5 = omega arith in
    let at_4 : all / 2 ^ 32 % 256 ≡ slice_index bytes 4 = omega arith in
    let at_3 : all / 2 ^ 24 % 256 ≡ slice_index bytes 3 = omega arith in
    let at_2 : all / 2 ^ 16 % 256 ≡ slice_index bytes 2 = omega arith in
    let at_1 : all / 2 ^ 8 % 256 ≡ slice_index bytes 1 = omega arith in
    let at_0 : all % 256 ≡ slice_index bytes 0 = omega arith in
    let each : eight_left 0 all ≡ steps 64 all = sym (eight_apart 0 all) in
    rw (at_7, at_6, at_5, at_4, at_3, at_2, at_1, at_0) at each
