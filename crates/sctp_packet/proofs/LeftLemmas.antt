-- What is left of a run that was folded leaves 0 what the run leaves the register.
use Rattle.std.proofs.Common.{◌≡◌, ℕ, ◌+◌, ◌-◌, ◌*◌, ◌^◌, ◌<◌, ◌≤◌, inl, inr, List, length, drop, bit_xor, refl, sym, ap, ◌∙◌, arith}
use Rattle.std.specs.Prelude.{slice_index}
use Rattle.std.specs.Int.Bits.{xor_assoc, xor_self, xor_zero_r, xor_zero_l}
use Rattle.std.proofs.lemmas.Bool.{cases_lt}
use Rattle.std.proofs.lemmas.Nat.{xor_comm, pow-add, pow_pos}
use Rattle.std.proofs.Math.Nat.{le-mul_of_pos_right}
use Rattle.byteorder.specs.Endian.{little_number}
use Rattle.sctp_packet.specs.Checksum.{bits, divisor, message_bits}
use Rattle.sctp_packet.specs.Register.{register_after}
use Rattle.sctp_packet.specs.Tables.{steps}
use Rattle.sctp_packet.specs.Folding.{FRONT, byte_of, mixed_byte, reaching, IsFolded, IsLeft}
use Rattle.sctp_packet.proofs.StepBits.{run_bits}
use Rattle.sctp_packet.proofs.FoldLemmas.{FAR, far_vanishes, far_within}
use Rattle.sctp_packet.proofs.JoinedLemmas.{joined, moved, moved_low, moved_high, fallen, joined_same, joined_sum, joined_list, joined_bytes, folded_steps}
use Rattle.sctp_packet.proofs.RoomLemmas.{high_byte}

-- ---- a place, and what reaches it

-- the bytes behind the zeros in front
abbrev placed : List ℕ → ℕ → ℕ
placed room i = slice_index room (FRONT + i)

moved_placed : (d i : ℕ) (room : List ℕ) → d ≤ FRONT → ((j : ℕ) → j < FRONT → slice_index room j ≡ 0) → moved d (placed room) i ≡ slice_index room (FRONT + i - d)
moved_placed d i room near before =
    elim (cases_lt i d) [
      | inl low ↦ moved_low d i (placed room) low ∙ sym (before (FRONT + i - d) (omega (arith, low, near)))
      | inr high ↦ moved_high d i (placed room) high ∙ ap (slice_index room) (omega (arith, high))
    ]

-- the first of six summands apart from the others
regrouped : (x a b c d e : ℕ) → bit_xor (bit_xor (bit_xor (bit_xor (bit_xor x a) b) c) d) e ≡ bit_xor x (bit_xor (bit_xor (bit_xor (bit_xor a b) c) d) e)
regrouped x a b c d e =
    ap (λ (n : ℕ). bit_xor (bit_xor (bit_xor n c) d) e) (xor_assoc x a b)
    ∙ (ap (λ (n : ℕ). bit_xor (bit_xor n d) e) (xor_assoc x (bit_xor a b) c)
    ∙ (ap (λ (n : ℕ). bit_xor n e) (xor_assoc x (bit_xor (bit_xor a b) c) d) ∙ xor_assoc x (bit_xor (bit_xor (bit_xor a b) c) d) e))

fallen_is : (room : List ℕ) (i : ℕ) → ((j : ℕ) → j < FRONT → slice_index room j ≡ 0) → fallen FAR (placed room) i ≡ bit_xor (placed room i) (reaching room (FRONT + i))
fallen_is room i before =
    rw (moved_placed 65 i room (omega arith) before, moved_placed 155 i room (omega arith) before, moved_placed 170 i room (omega arith) before, moved_placed 195 i room (omega arith) before, moved_placed 209 i room (omega arith) before)
    (regrouped (placed room i) (slice_index room (FRONT + i - 65)) (slice_index room (FRONT + i - 155)) (slice_index room (FRONT + i - 170)) (slice_index room (FRONT + i - 195)) (slice_index room (FRONT + i - 209)))

-- ---- a byte is in its place, or left

twice : (m r : ℕ) → bit_xor (bit_xor (bit_xor m r) r) 0 ≡ m
twice m r = xor_zero_r (bit_xor (bit_xor m r) r) ∙ (xor_assoc m r r ∙ (ap (bit_xor m) (xor_self r) ∙ xor_zero_r m))

module _ (register : ℕ) (bytes room left : List ℕ) (k n : ℕ) (small : register < 2 ^ 32) (some : 4 ≤ k) (folded : IsFolded register bytes k room) (rest : IsLeft bytes room k n left) where
  in_place : (i : ℕ) → i < k → mixed_byte register bytes i ≡ bit_xor (fallen FAR (placed room) i) (moved k (slice_index left) i)
  in_place i low =
      let r = reaching room (FRONT + i) in
      let here : fallen FAR (placed room) i ≡ bit_xor (bit_xor (mixed_byte register bytes i) r) r = fallen_is room i folded.before ∙ ap (λ (x : ℕ). bit_xor x r) (folded.each i low) in
      sym (rw (here, moved_low k i (slice_index left) low) (twice (mixed_byte register bytes i) r))

  is_left : (i : ℕ) → k ≤ i → i < k + n → mixed_byte register bytes i ≡ bit_xor (fallen FAR (placed room) i) (moved k (slice_index left) i)
  is_left i high within =
      let r = reaching room (FRONT + i) in
      let b = slice_index bytes i in
      let back : k + (i - k) ≡ i = omega (arith, high) in
      let plain : mixed_byte register bytes i ≡ b = ap (bit_xor b) (high_byte register i small (omega (arith, high, some))) ∙ xor_zero_r b in
      let none : fallen FAR (placed room) i ≡ r = fallen_is room i folded.before ∙ (ap (λ (x : ℕ). bit_xor x r) (folded.behind (FRONT + i) (omega (arith, high))) ∙ xor_zero_l r) in
      let left_here : moved k (slice_index left) i ≡ bit_xor b r =
      moved_high k i (slice_index left) high ∙ (rest (i - k) (omega (arith, high, within)) ∙ rw back refl) in
      let turn : bit_xor r (bit_xor b r) ≡ b = ap (bit_xor r) (xor_comm b r) ∙ (sym (xor_assoc r r b) ∙ (ap (λ (x : ℕ). bit_xor x b) (xor_self r) ∙ xor_zero_l b)) in
      plain ∙ sym (rw (none, left_here) turn)

  made : (i : ℕ) → i < k + n → mixed_byte register bytes i ≡ bit_xor (fallen FAR (placed room) i) (moved k (slice_index left) i)
  made i within =
      elim (cases_lt i k) [
        | inl low ↦ in_place i low
        | inr high ↦ is_left i high within
      ]

  -- ---- the register after it

  all_mixed : ((j : ℕ) → slice_index bytes j < 256) → joined (k + n) (mixed_byte register bytes) ≡ bit_xor register (little_number (k + n) bytes)
  all_mixed ranged =
      let places : joined (k + n) (slice_index bytes) ≡ little_number (k + n) bytes = joined_same (k + n) (slice_index bytes) (λ j. slice_index bytes (0 + j)) (λ j lt. ap (slice_index bytes) (omega arith)) ∙ joined_list (k + n) 0 bytes in
      let wide : register < 2 ^ (8 * (k + n)) = wider (k + n) (omega (arith, some)) in
      joined_sum (k + n) (slice_index bytes) (byte_of register) ranged (λ i. omega arith)
      ∙ (rw (places, joined_bytes (k + n) register wide) refl ∙ xor_comm (little_number (k + n) bytes) register)
    where
      wider : (m : ℕ) → 4 ≤ m → register < 2 ^ (8 * m)
      wider m four =
          let count : 8 * m ≡ 32 + (8 * m - 32) = omega (arith, four) in
          let both : 2 ^ (8 * m) ≡ 2 ^ 32 * 2 ^ (8 * m - 32) = ap (λ (j : ℕ). 2 ^ j) count ∙ pow-add 2 32 (8 * m - 32) in
          let more = pow_pos (8 * m - 32) in
          let least : 2 ^ 32 ≤ 2 ^ 32 * 2 ^ (8 * m - 32) = le-mul_of_pos_right (2 ^ 32) more in
          omega (arith, both, least, small)

  pub left_goes_on : 209 ≤ n → length bytes ≡ k + n → length left ≡ n → ((j : ℕ) → slice_index bytes j < 256) → ((j : ℕ) → slice_index room j < 256) → ((j : ℕ) → slice_index left j < 256) →
      register_after (drop 1 divisor) (bits 32 0) (message_bits left) ≡ register_after (drop 1 divisor) (bits 32 register) (message_bits bytes)
  left_goes_on long all these ranged room_ranged left_ranged =
      let places : joined n (slice_index left) ≡ little_number n left = joined_same n (slice_index left) (λ j. slice_index left (0 + j)) (λ j lt. ap (slice_index left) (omega arith)) ∙ joined_list n 0 left in
      let same : steps (8 * (k + n)) (bit_xor register (little_number (k + n) bytes)) ≡ steps (8 * n) (bit_xor 0 (little_number n left)) =
      ap (steps (8 * (k + n))) (sym (all_mixed ranged))
      ∙ (folded_steps 209 FAR far_vanishes far_within k n (mixed_byte register bytes) (placed room) (slice_index left) (λ i. room_ranged (FRONT + i)) left_ranged long (λ i high. folded.behind (FRONT + i) (omega (arith, high))) made
      ∙ ap (steps (8 * n)) (places ∙ sym (xor_zero_l (little_number n left)))) in
      sym (run_bits 0 left n left_ranged (omega arith) these) ∙ (ap (bits 32) (sym same) ∙ run_bits register bytes (k + n) ranged small all)
