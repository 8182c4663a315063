-- The first bytes of a run, which no byte reaches, and the next ones, which one byte each reaches, are folded a word at a time.
use Rattle.std.proofs.Common.{◌≡◌, ℕ, ◌+◌, ◌-◌, ◌^◌, ◌<◌, ◌≤◌, List, bit_xor, refl, sym, ap, ◌∙◌, arith}
use Rattle.std.specs.Prelude.{slice_index}
use Rattle.std.specs.Int.Bits.{xor_zero_r}
use Rattle.sctp_packet.specs.Folding.{FRONT, byte_of, mixed_byte, reaching, IsFolded}
use Rattle.sctp_packet.proofs.RoomLemmas.{byte_sum, mixed_plain, reaching_none, folded_more, folded_none}

-- one byte reaches a place that is not as far as the next nearest is moved
pub reaching_near : (xs : List ℕ) (p : ℕ) → ((j : ℕ) → j < FRONT → slice_index xs j ≡ 0) → p < FRONT + 155 → reaching xs p ≡ slice_index xs (p - 65)
reaching_near xs p empty near =
    let none = xor_zero_r (slice_index xs (p - 65)) in
    rw (empty (p - 155) (omega (arith, near)), empty (p - 170) (omega (arith, near)), empty (p - 195) (omega (arith, near)), empty (p - 209) (omega (arith, near)), none, none, none, none) refl

-- the first word, to which the register is added
pub folded_first : (register from : ℕ) (bytes xs ys : List ℕ) (word : ℕ) → from ≡ register → ((j : ℕ) → slice_index xs j ≡ 0) → ((k : ℕ) → k < 8 → byte_of word k ≡ slice_index bytes (0 + k)) →
    ((j : ℕ) → j < FRONT → slice_index ys j ≡ slice_index xs j) → ((k : ℕ) → k < 8 → slice_index ys (FRONT + k) ≡ byte_of (bit_xor word from) k) →
    ((j : ℕ) → FRONT + 8 ≤ j → slice_index ys j ≡ slice_index xs j) → IsFolded register bytes 8 ys
folded_first register from bytes xs ys word is empty w before here behind =
    folded_more register bytes xs ys 0 8 (omega arith) (folded_none register bytes xs empty) (λ j low. before j (omega (arith, low))) each (λ j high. behind j (omega (arith, high)))
  where
    each : (k : ℕ) → k < 8 → slice_index ys (FRONT + 0 + k) ≡ bit_xor (mixed_byte register bytes (0 + k)) (reaching xs (FRONT + 0 + k))
    each k few =
        let start : k ≡ 0 + k = omega arith in
        let sum : byte_of (bit_xor word from) k ≡ mixed_byte register bytes (0 + k) =
        byte_sum word from k ∙ (rw (w k few, is) refl ∙ ap (λ (i : ℕ). bit_xor (slice_index bytes (0 + k)) (byte_of register i)) start) in
        here k few ∙ (sum ∙ (sym (xor_zero_r (mixed_byte register bytes (0 + k))) ∙ ap (bit_xor (mixed_byte register bytes (0 + k))) (sym (reaching_none xs (FRONT + 0 + k) empty))))

-- a word that nothing reaches
pub folded_alone : (register : ℕ) (bytes xs ys : List ℕ) (n word : ℕ) → register < 2 ^ 32 → 4 ≤ n → n ≤ 57 → IsFolded register bytes n xs → ((k : ℕ) → k < 8 → byte_of word k ≡ slice_index bytes (n + k)) →
    ((j : ℕ) → j < FRONT + n → slice_index ys j ≡ slice_index xs j) → ((k : ℕ) → k < 8 → slice_index ys (FRONT + n + k) ≡ byte_of word k) →
    ((j : ℕ) → FRONT + n + 8 ≤ j → slice_index ys j ≡ slice_index xs j) → IsFolded register bytes (n + 8) ys
folded_alone register bytes xs ys n word small some few_words f w before here behind = folded_more register bytes xs ys n 8 (omega arith) f before each behind
  where
    each : (k : ℕ) → k < 8 → slice_index ys (FRONT + n + k) ≡ bit_xor (mixed_byte register bytes (n + k)) (reaching xs (FRONT + n + k))
    each k few =
        let plain = mixed_plain register bytes (n + k) small (omega (arith, some)) in
        let none : reaching xs (FRONT + n + k) ≡ 0 =
        reaching_near xs (FRONT + n + k) f.before (omega (arith, few_words, few)) ∙ f.before (FRONT + n + k - 65) (omega (arith, few_words, few)) in
        here k few ∙ (w k few ∙ (sym plain ∙ (sym (xor_zero_r (mixed_byte register bytes (n + k))) ∙ ap (bit_xor (mixed_byte register bytes (n + k))) (sym none))))

-- a word each byte of which one byte reaches
pub folded_near : (register : ℕ) (bytes xs ys : List ℕ) (n word near : ℕ) → register < 2 ^ 32 → 4 ≤ n → n ≤ 147 → IsFolded register bytes n xs → ((k : ℕ) → k < 8 → byte_of word k ≡ slice_index bytes (n + k)) →
    ((k : ℕ) → k < 8 → byte_of near k ≡ slice_index xs (FRONT + n - 65 + k)) → ((j : ℕ) → j < FRONT + n → slice_index ys j ≡ slice_index xs j) →
    ((k : ℕ) → k < 8 → slice_index ys (FRONT + n + k) ≡ byte_of (bit_xor word near) k) → ((j : ℕ) → FRONT + n + 8 ≤ j → slice_index ys j ≡ slice_index xs j) → IsFolded register bytes (n + 8) ys
folded_near register bytes xs ys n word near small some few_words f w r before here behind = folded_more register bytes xs ys n 8 (omega arith) f before each behind
  where
    each : (k : ℕ) → k < 8 → slice_index ys (FRONT + n + k) ≡ bit_xor (mixed_byte register bytes (n + k)) (reaching xs (FRONT + n + k))
    each k few =
        let plain = mixed_plain register bytes (n + k) small (omega (arith, some)) in
        let back : FRONT + n - 65 + k ≡ FRONT + n + k - 65 = omega arith in
        let reached : byte_of near k ≡ reaching xs (FRONT + n + k) =
        r k few ∙ (ap (slice_index xs) back ∙ sym (reaching_near xs (FRONT + n + k) f.before (omega (arith, few_words, few)))) in
        here k few ∙ (byte_sum word near k ∙ rw (w k few, reached, plain) refl)
