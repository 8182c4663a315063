-- A buffer in which a run of bytes is folded, a block at a time.
use Rattle.std.proofs.Common.{◌≡◌, ℕ, zero, suc, replicate, ◌+◌, ◌-◌, ◌*◌, ◌/◌, ◌%◌, ◌^◌, ◌<◌, ◌≤◌, inl, inr, List, length, bit_xor, refl, sym, ap, ◌∙◌, arith}
use Rattle.std.specs.Prelude.{slice_index, take, drop, [], ◌++◌}
use Rattle.std.proofs.lemmas.Grind.{common_steps}
use borrow.Rule.Slice.PartMut.{put_mid, mid_of, post_of}
use Rattle.std.proofs.lemmas.List.{get_or-append_right, get_or-drop}
use Rattle.std.proofs.Common.{append-nil}
use Rattle.std.proofs.lemmas.Bool.{cases_lt}
use Rattle.std.specs.Int.Bits.{xor_zero_r}
use Rattle.std.proofs.lemmas.Nat.{xor_mod, xor_shr, pow_pos, shr-shr}
use Rattle.std.proofs.Math.Nat.{div-eq_of_lt}
use Rattle.sctp_packet.specs.Folding.{FRONT, byte_of, mixed_byte, reaching, IsFolded}

-- a byte of a sum is the sum of the bytes
pub byte_sum : (a b k : ℕ) → byte_of (bit_xor a b) k ≡ bit_xor (byte_of a k) (byte_of b k)
byte_sum a b k = ap (λ (x : ℕ). x % 2 ^ 8) (xor_shr a b (8 * k)) ∙ xor_mod (a / 2 ^ (8 * k)) (b / 2 ^ (8 * k)) 8

-- a register of 32 bits reaches four bytes
pub high_byte : (register i : ℕ) → register < 2 ^ 32 → 4 ≤ i → byte_of register i ≡ 0
high_byte register i small high =
    let count : 8 * i ≡ 32 + (8 * i - 32) = omega (arith, high) in
    let none : register / 2 ^ 32 ≡ 0 = omega (arith, small) in
    let down : register / 2 ^ (8 * i) ≡ 0 / 2 ^ (8 * i - 32) = ap (λ (n : ℕ). register / 2 ^ n) count ∙ (sym (shr-shr register 32 (8 * i - 32)) ∙ ap (λ (x : ℕ). x / 2 ^ (8 * i - 32)) none) in
    let zero : 0 / 2 ^ (8 * i - 32) ≡ 0 = div-eq_of_lt (pow_pos (8 * i - 32)) in
    ap (λ (x : ℕ). x % 256) (down ∙ zero)

-- so the bytes behind these are as they were
pub mixed_plain : (register : ℕ) (bytes : List ℕ) (i : ℕ) → register < 2 ^ 32 → 4 ≤ i → mixed_byte register bytes i ≡ slice_index bytes i
mixed_plain register bytes i small high = ap (bit_xor (slice_index bytes i)) (high_byte register i small high) ∙ xor_zero_r (slice_index bytes i)

-- and no register leaves all
pub byte_none : (i : ℕ) → byte_of 0 i ≡ 0
byte_none i = let none : 0 / 2 ^ (8 * i) ≡ 0 = div-eq_of_lt (pow_pos (8 * i)) in ap (λ (x : ℕ). x % 256) none

-- what reaches a place stands at least 65 places before it
pub reaching_same : (xs ys : List ℕ) (q p : ℕ) → ((j : ℕ) → j < q → slice_index ys j ≡ slice_index xs j) → 0 < q → p < q + 65 → reaching ys p ≡ reaching xs p
reaching_same xs ys q p same some near =
    rw (same (p - 65) (omega (arith, near, some)), same (p - 155) (omega (arith, near, some)), same (p - 170) (omega (arith, near, some)), same (p - 195) (omega (arith, near, some)), same (p - 209) (omega (arith, near, some))) refl

-- m bytes more, at most as many as the nearest that one is moved
pub folded_more : (register : ℕ) (bytes xs ys : List ℕ) (n m : ℕ) → m ≤ 65 → IsFolded register bytes n xs → ((j : ℕ) → j < FRONT + n → slice_index ys j ≡ slice_index xs j) →
    ((k : ℕ) → k < m → slice_index ys (FRONT + n + k) ≡ bit_xor (mixed_byte register bytes (n + k)) (reaching xs (FRONT + n + k))) →
    ((j : ℕ) → FRONT + n + m ≤ j → slice_index ys j ≡ slice_index xs j) → IsFolded register bytes (n + m) ys
folded_more register bytes xs ys n m most f before here behind = record {
  before = λ j low. before j (omega (arith, low)) ∙ f.before j low;
  each = λ i lt.
      elim (cases_lt i n) [
        | inl old ↦ before (FRONT + i) (omega (arith, old)) ∙ (f.each i old ∙ ap (bit_xor (mixed_byte register bytes i)) (sym (reaching_same xs ys (FRONT + n) (FRONT + i) before (omega arith) (omega (arith, old)))))
        | inr new ↦ block i (i - n) (omega (arith, new)) (omega (arith, lt))
      ];
  behind = λ j high. behind j (omega (arith, high)) ∙ f.behind j (omega (arith, high));
}
  where
    block : (i k : ℕ) → i ≡ n + k → k < m → slice_index ys (FRONT + i) ≡ bit_xor (mixed_byte register bytes i) (reaching ys (FRONT + i))
    block i k is few =
        let at : FRONT + n + k ≡ FRONT + i = omega (arith, is) in
        let h = here k few in
        let same = reaching_same xs ys (FRONT + n) (FRONT + i) before (omega arith) (omega (arith, is, few, most)) in
        ap (slice_index ys) (sym at) ∙ (h ∙ (ap (λ (j : ℕ). bit_xor (mixed_byte register bytes j) (reaching xs (FRONT + n + k))) (sym is)
        ∙ (ap (λ (j : ℕ). bit_xor (mixed_byte register bytes i) (reaching xs j)) at ∙ ap (bit_xor (mixed_byte register bytes i)) (sym same))))

-- a block more, behind the bytes that the register reaches
pub folded_block : (register : ℕ) (bytes xs ys : List ℕ) (n : ℕ) → register < 2 ^ 32 → 4 ≤ n → IsFolded register bytes n xs → ((j : ℕ) → j < FRONT + n → slice_index ys j ≡ slice_index xs j) →
    ((k : ℕ) → k < 32 → slice_index ys (FRONT + n + k) ≡ bit_xor (slice_index bytes (n + k)) (reaching xs (FRONT + n + k))) →
    ((j : ℕ) → FRONT + n + 32 ≤ j → slice_index ys j ≡ slice_index xs j) → IsFolded register bytes (n + 32) ys
folded_block register bytes xs ys n small some f before here behind =
    folded_more register bytes xs ys n 32 (omega arith) f before (λ k few. here k few ∙ ap (λ (b : ℕ). bit_xor b (reaching xs (FRONT + n + k))) (sym (mixed_plain register bytes (n + k) small (omega (arith, some))))) behind

-- nothing reaches the first block
pub folded_none : (register : ℕ) (bytes xs : List ℕ) → ((j : ℕ) → slice_index xs j ≡ 0) → IsFolded register bytes 0 xs
folded_none register bytes xs empty = record { before = λ j low. empty j; each = λ i lt. absurd (omega (arith, lt)); behind = λ j high. empty j }

pub reaching_none : (xs : List ℕ) (p : ℕ) → ((j : ℕ) → slice_index xs j ≡ 0) → reaching xs p ≡ 0
reaching_none xs p empty = rw (empty (p - 65), empty (p - 155), empty (p - 170), empty (p - 195), empty (p - 209)) refl

-- one block more is left, before those that are written
pub left_more : (bytes room xs ys : List ℕ) (at end : ℕ) → ((i : ℕ) → at + 32 ≤ i → i < end → slice_index xs (FRONT + i) ≡ bit_xor (slice_index bytes i) (reaching room (FRONT + i))) →
    ((j : ℕ) → j < FRONT + (at + 32) → slice_index xs j ≡ slice_index room j) → ((k : ℕ) → k < 32 → slice_index ys (FRONT + at + k) ≡ bit_xor (slice_index bytes (at + k)) (reaching xs (FRONT + at + k))) →
    ((j : ℕ) → FRONT + at + 32 ≤ j → slice_index ys j ≡ slice_index xs j) → (i : ℕ) → at ≤ i → i < end → slice_index ys (FRONT + i) ≡ bit_xor (slice_index bytes i) (reaching room (FRONT + i))
left_more bytes room xs ys at end later before here behind i high low =
    elim (cases_lt i (at + 32)) [
      | inl new ↦ block (i - at) (omega (arith, high)) (omega (arith, high, new))
      | inr old ↦ behind (FRONT + i) (omega (arith, old)) ∙ later i old low
    ]
  where
    block : (k : ℕ) → at + k ≡ i → k < 32 → slice_index ys (FRONT + i) ≡ bit_xor (slice_index bytes i) (reaching room (FRONT + i))
    block k is few =
        let place : FRONT + at + k ≡ FRONT + i = omega (arith, is) in
        let same = reaching_same room xs (FRONT + (at + 32)) (FRONT + i) before (omega arith) (omega (arith, is, few)) in
        (rw (place, is) at (here k few)) ∙ ap (bit_xor (slice_index bytes i)) same

-- behind n bytes that are written nothing changes
behind_written : (n a j : ℕ) (xs ws : List ℕ) → length ws ≡ n → a + n ≤ length xs → a + n ≤ j →
    slice_index (take a xs ++ ((ws ++ drop n (drop a xs)) ++ [])) j ≡ slice_index xs j
behind_written n a j xs ws word within high =
    let front : length (take a xs) ≡ a = grind (arith, common_steps, within) in
    let first = get_or-append_right (take a xs) ((ws ++ drop n (drop a xs)) ++ []) a j 0 front (omega (arith, high)) in
    let plain : (ws ++ drop n (drop a xs)) ++ [] ≡ ws ++ drop n (drop a xs) = append-nil (ws ++ drop n (drop a xs)) in
    let second = get_or-append_right ws (drop n (drop a xs)) n (j - a) 0 word (omega (arith, high)) in
    let count : a + (n + (j - a - n)) ≡ j = omega (arith, high) in
    first ∙ (ap (λ (l : List ℕ). slice_index l (j - a)) plain ∙ (second ∙ (get_or-drop n (drop a xs) (j - a - n) 0 ∙ (get_or-drop a xs (n + (j - a - n)) 0 ∙ ap (slice_index xs) count))))

pub behind_word : (a j : ℕ) (xs ws zs : List ℕ) → length ws ≡ 8 → a + 8 ≤ length xs → a + 8 ≤ j → zs ≡ ws ++ drop 8 (mid_of a (length xs - a) xs) → slice_index (put_mid a (length xs - a) xs zs) j ≡ slice_index xs j
behind_word a j xs ws zs word within high is =
    let whole : mid_of a (length xs - a) xs ≡ drop a xs = grind (arith, common_steps, within) in
    let none : post_of a (length xs - a) xs ≡ [] = grind (arith, common_steps, within) in
    rw (is, whole, none) (behind_written 8 a j xs ws word within high)

-- a room that is made holds zeros
pub empty_room : (n j : ℕ) → slice_index (replicate n 0) j ≡ 0
empty_room zero j = refl
empty_room (suc n) zero = refl
empty_room (suc n) (suc j) = empty_room n j
