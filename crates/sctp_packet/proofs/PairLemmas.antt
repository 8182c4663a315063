-- Two blocks of a run, read and written in a part of a buffer.
use Rattle.std.proofs.Common.{◌≡◌, ℕ, ◌+◌, ◌-◌, ◌^◌, ◌<◌, ◌≤◌, ◌++◌, inl, inr, List, bit_xor, length, take, drop, sym, ap, ◌∙◌, arith}
use Rattle.std.specs.Prelude.{slice_index}
use Rattle.std.proofs.lemmas.Bool.{cases_lt}
use Rattle.std.proofs.lemmas.List.{get_or-append_right, get_or_append_left, get_or-drop, get_or-take, length-append, length-drop, length-take-le}
use borrow.Rule.Slice.PartMut.{put_mid}
use Rattle.sctp_packet.specs.Folding.{FRONT, mixed_byte, reaching, IsFolded}
use Rattle.sctp_packet.proofs.BlockLemmas.{part_byte, part_reaching}
use Rattle.sctp_packet.proofs.RoomLemmas.{mixed_plain, folded_more}

-- a byte of a part that is written
part_written : (xs ws : List ℕ) (n i j : ℕ) → n ≤ length xs → n + i ≡ j → i < length ws → slice_index (put_mid n 280 xs ws) j ≡ slice_index ws i
part_written xs ws n i j within is few =
    let front : length (take n xs) ≡ n = length-take-le n xs within in
    let back : j - n ≡ i = omega (arith, is) in
    get_or-append_right (take n xs) (ws ++ drop 280 (drop n xs)) n j 0 front (omega (arith, is))
    ∙ (get_or_append_left ws (drop 280 (drop n xs)) 0 (j - n) (omega (arith, is, few)) ∙ ap (slice_index ws) back)

-- as many bytes as there were
pub length_written : (xs ws : List ℕ) (n : ℕ) → n + 280 ≤ length xs → length ws ≡ 280 → length (put_mid n 280 xs ws) ≡ length xs
length_written xs ws n within long =
    let front : length (take n xs) ≡ n = length-take-le n xs (omega (arith, within)) in
    let rest : length (drop 280 (drop n xs)) ≡ length xs - n - 280 = length-drop 280 (drop n xs) ∙ ap (λ (m : ℕ). m - 280) (length-drop n xs) in
    let joined = length-append (take n xs) (ws ++ drop 280 (drop n xs)) in
    let written = length-append ws (drop 280 (drop n xs)) in
    omega (arith, front, rest, joined, written, within, long)

-- and those behind the part
part_behind : (xs ws : List ℕ) (n j : ℕ) → n ≤ length xs → length ws ≡ 280 → n + 280 ≤ j → slice_index (put_mid n 280 xs ws) j ≡ slice_index xs j
part_behind xs ws n j within long high =
    let front : length (take n xs) ≡ n = length-take-le n xs within in
    let count : n + (280 + (j - n - 280)) ≡ j = omega (arith, high) in
    get_or-append_right (take n xs) (ws ++ drop 280 (drop n xs)) n j 0 front (omega (arith, high))
    ∙ (get_or-append_right ws (drop 280 (drop n xs)) 280 (j - n) 0 long (omega (arith, high))
    ∙ (get_or-drop 280 (drop n xs) (j - n - 280) 0 ∙ (get_or-drop n xs (280 + (j - n - 280)) 0 ∙ ap (slice_index xs) count)))

-- and those before its last 64
part_before : (xs ws : List ℕ) (n j : ℕ) → n ≤ length xs → length ws ≡ 280 → ((i : ℕ) → i < 216 → slice_index ws i ≡ slice_index (take 280 (drop n xs)) i) → j < FRONT + n →
    slice_index (put_mid n 280 xs ws) j ≡ slice_index xs j
part_before xs ws n j within long same low =
    elim (cases_lt j n) [
      | inl first ↦
          let front : length (take n xs) ≡ n = length-take-le n xs within in
          get_or_append_left (take n xs) (ws ++ drop 280 (drop n xs)) 0 j (omega (arith, front, first)) ∙ get_or-take n xs j 0 first
      | inr later ↦
          let count : n + (j - n) ≡ j = omega (arith, later) in
          part_written xs ws n (j - n) j within count (omega (arith, long, later, low))
          ∙ (same (j - n) (omega (arith, later, low)) ∙ (part_byte xs n 280 (j - n) (omega (arith, later, low)) ∙ ap (slice_index xs) count))
    ]

-- Two blocks more of a run, written in a part of its buffer.
pub folded_pair : (register : ℕ) (bytes pair xs ws : List ℕ) (n : ℕ) → register < 2 ^ 32 → 4 ≤ n → n ≤ length xs → length ws ≡ 280 → IsFolded register bytes n xs →
    ((k : ℕ) → k < 64 → slice_index pair k ≡ slice_index bytes (n + k)) → ((j : ℕ) → j < 216 → slice_index ws j ≡ slice_index (take 280 (drop n xs)) j) →
    ((k : ℕ) → k < 64 → slice_index ws (216 + k) ≡ bit_xor (slice_index pair k) (reaching (take 280 (drop n xs)) (216 + k))) → IsFolded register bytes (n + 64) (put_mid n 280 xs ws)
folded_pair register bytes pair xs ws n small some within long folded taken same here =
    folded_more register bytes xs (put_mid n 280 xs ws) n 64 (omega arith) folded (λ j low. part_before xs ws n j within long same low) each (λ j high. part_behind xs ws n j within long (omega (arith, high)))
  where
    window : List ℕ
    window = take 280 (drop n xs)

    each : (k : ℕ) → k < 64 → slice_index (put_mid n 280 xs ws) (FRONT + n + k) ≡ bit_xor (mixed_byte register bytes (n + k)) (reaching xs (FRONT + n + k))
    each k few =
        part_written xs ws n (216 + k) (FRONT + n + k) within (omega arith) (omega (arith, long, few))
        ∙ (here k few
        ∙ (ap (λ (b : ℕ). bit_xor b (reaching window (216 + k))) (taken k few ∙ sym (mixed_plain register bytes (n + k) small (omega (arith, some))))
        ∙ ap (bit_xor (mixed_byte register bytes (n + k))) (part_reaching xs window n k few (λ j low. part_byte xs n 280 j (omega (arith, low))))))

-- The two blocks as they are written, after the bytes that reach them.
pub pair_here : (pair room front first second one two : List ℕ) → length front ≡ 216 → length one ≡ 32 → ((j : ℕ) → j < 216 → slice_index front j ≡ slice_index room j) →
    ((k : ℕ) → k < 32 → slice_index first k ≡ slice_index pair k) → ((k : ℕ) → k < 32 → slice_index second k ≡ slice_index pair (32 + k)) →
    ((k : ℕ) → k < 32 → slice_index one k ≡ bit_xor (slice_index first k) (reaching front (216 + k))) → ((k : ℕ) → k < 32 → slice_index two k ≡ bit_xor (slice_index second k) (reaching front (248 + k))) →
    (k : ℕ) → k < 64 → slice_index (front ++ (one ++ two)) (216 + k) ≡ bit_xor (slice_index pair k) (reaching room (216 + k))
pair_here pair room front first second one two long whole same is_first is_second first_set second_set k few =
    let reached : reaching front (216 + k) ≡ reaching room (216 + 0 + k) = part_reaching room front 0 k few (λ j low. same j low ∙ ap (slice_index room) (let e : j ≡ 0 + j = omega arith in e)) in
    let place : 216 + 0 + k ≡ 216 + k = omega arith in
    let behind : 216 + k - 216 ≡ k = omega arith in
    let part = get_or-append_right front (one ++ two) 216 (216 + k) 0 long (omega arith) ∙ ap (slice_index (one ++ two)) behind in
    elim (cases_lt k 32) [
      | inl low ↦
          part ∙ (get_or_append_left one two 0 k (omega (arith, whole, low)) ∙ (first_set k low
          ∙ (ap (λ (b : ℕ). bit_xor b (reaching front (216 + k))) (is_first k low) ∙ ap (bit_xor (slice_index pair k)) (reached ∙ ap (reaching room) place))))
      | inr high ↦
          let back : 32 + (k - 32) ≡ k = omega (arith, high) in
          let far : 248 + (k - 32) ≡ 216 + k = omega (arith, high) in
          let low : k - 32 < 32 = omega (arith, few, high) in
          part ∙ (get_or-append_right one two 32 k 0 whole high ∙ (second_set (k - 32) low
          ∙ (ap (λ (b : ℕ). bit_xor b (reaching front (248 + (k - 32)))) (is_second (k - 32) low ∙ ap (slice_index pair) back)
          ∙ ap (bit_xor (slice_index pair k)) (ap (reaching front) far ∙ (reached ∙ ap (reaching room) place)))))
    ]
