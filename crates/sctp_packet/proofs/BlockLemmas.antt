-- A block of a run: its bytes and what folding moves to them, read and written in a part of a buffer.
use Rattle.std.proofs.Common.{◌≡◌, ℕ, ◌+◌, ◌-◌, ◌<◌, ◌≤◌, ◌++◌, inl, inr, List, bit_xor, length, take, drop, refl, ap, ◌∙◌, arith}
use Rattle.std.specs.Prelude.{slice_index}
use Rattle.std.proofs.lemmas.Bool.{cases_lt}
use Rattle.std.proofs.lemmas.List.{get_or-append_right, get_or_append_left, get_or-drop, get_or-take, get_or_past, length-take}
use Rattle.sctp_packet.specs.Folding.{reaching}

-- a byte of a part
pub part_byte : (xs : List ℕ) (a n k : ℕ) → k < n → slice_index (take n (drop a xs)) k ≡ slice_index xs (a + k)
part_byte xs a n k few = get_or-take n (drop a xs) k 0 few ∙ get_or-drop a xs k 0

pub part_small : (xs : List ℕ) (a n k : ℕ) → ((j : ℕ) → slice_index xs j < 256) → slice_index (take n (drop a xs)) k < 256
part_small xs a n k small =
    elim (cases_lt k n) [
      | inl low ↦ omega (arith, part_byte xs a n k low, small (a + k))
      | inr high ↦ omega (arith, get_or_past (take n (drop a xs)) k 0 (omega (arith, length-take n (drop a xs), high)))
    ]

-- what reaches a place is the same wherever the bytes before it stand
reaching_moved : (xs ws : List ℕ) (p q : ℕ) → ((d : ℕ) → 65 ≤ d → d ≤ 209 → slice_index ws (p - d) ≡ slice_index xs (q - d)) → reaching ws p ≡ reaching xs q
reaching_moved xs ws p q same =
    rw (same 65 (omega arith) (omega arith), same 155 (omega arith) (omega arith), same 170 (omega arith) (omega arith), same 195 (omega arith) (omega arith), same 209 (omega arith) (omega arith)) refl

-- so that of a block, from the bytes in front of it
pub part_reaching : (xs ws : List ℕ) (a k : ℕ) → k < 64 → ((j : ℕ) → j < 216 → slice_index ws j ≡ slice_index xs (a + j)) → reaching ws (216 + k) ≡ reaching xs (216 + a + k)
part_reaching xs ws a k few same =
    reaching_moved xs ws (216 + k) (216 + a + k) (λ d far near.
    same (216 + k - d) (omega (arith, few, far)) ∙ ap (slice_index xs) (let e : a + (216 + k - d) ≡ 216 + a + k - d = omega (arith, near) in e))

-- two parts in a row are a block
pub two_parts : (zs : List ℕ) (f : ℕ → ℕ) → ((j : ℕ) → j < 16 → slice_index zs (0 + j) ≡ f (0 + j)) → ((j : ℕ) → j < 16 → slice_index zs (16 + j) ≡ f (16 + j)) → (k : ℕ) → k < 32 → slice_index zs k ≡ f k
two_parts zs f first second k few =
    elim (cases_lt k 16) [
      | inl low ↦ let start : 0 + k ≡ k = omega arith in rw start at (first k low)
      | inr high ↦ let back : 16 + (k - 16) ≡ k = omega (arith, high) in rw back at (second (k - 16) (omega (arith, high, few)))
    ]

-- so a block of a part is that of the whole
pub block_of : (bytes room taken before : List ℕ) (at k : ℕ) → k < 32 → ((j : ℕ) → j < 32 → slice_index taken j ≡ slice_index bytes (at + j)) → ((j : ℕ) → j < 216 → slice_index before j ≡ slice_index room (at + j)) →
    bit_xor (slice_index taken k) (reaching before (216 + k)) ≡ bit_xor (slice_index bytes (at + k)) (reaching room (216 + at + k))
block_of bytes room taken before at k few bytes_same room_same =
    rw (bytes_same k few, part_reaching room before at k (omega (arith, few)) room_same) refl

-- ---- a block that is written

-- between what stands before it and what stands behind it
pub joined_here : (front block rest : List ℕ) (n k : ℕ) → length front ≡ n → length block ≡ 32 → k < 32 → slice_index (front ++ (block ++ rest)) (n + k) ≡ slice_index block k
joined_here front block rest n k long whole few =
    let back : n + k - n ≡ k = omega arith in
    get_or-append_right front (block ++ rest) n (n + k) 0 long (omega arith)
    ∙ (ap (slice_index (block ++ rest)) back ∙ get_or_append_left block rest 0 k (omega (arith, whole, few)))

pub joined_behind : (front block behind room : List ℕ) (n j : ℕ) → length front ≡ n → length block ≡ 32 → ((k : ℕ) → slice_index behind k ≡ slice_index room (n + k)) → n + 32 ≤ j →
    slice_index (front ++ (block ++ drop 32 behind)) j ≡ slice_index room j
joined_behind front block behind room n j long whole same high =
    let count : n + (32 + (j - n - 32)) ≡ j = omega (arith, high) in
    get_or-append_right front (block ++ drop 32 behind) n j 0 long (omega (arith, high))
    ∙ (get_or-append_right block (drop 32 behind) 32 (j - n) 0 whole (omega (arith, high))
    ∙ (get_or-drop 32 behind (j - n - 32) 0 ∙ (same (32 + (j - n - 32)) ∙ ap (slice_index room) count)))
