-- An array of 40 zeros that is filled from the front, one field after the other.
use Rattle.std.proofs.Common.{◌≡◌, ℕ, ◌+◌, ◌-◌, ◌≤◌, List, ◌++◌, [], length, take, drop, replicate, refl, ◌∙◌, arith, append_assoc, length-append}
use Rattle.std.proofs.lemmas.List.{append-nil, take_at, drop_at, drop-replicate, length-replicate, take_all, drop_all}
use borrow.Rule.Slice.PartMut.{put_mid}

-- these bytes, and zeros up to 40
abbrev pub filled : List ℕ → List ℕ
filled front = front ++ replicate (40 - length front) 0

-- a field of n bytes is written behind the first bytes
pub filled_more : (at k n : ℕ) (front field old new : List ℕ) → length front ≡ at → length field ≡ n → at + n ≤ 40 → at + k ≡ 40
    → old ≡ filled front → new ≡ field ++ drop n (take k (drop at old)) → put_mid at k old new ≡ filled (front ++ field)
filled_more at k n front field old new place size fits end is_filled written =
    let zeros : List ℕ = replicate (40 - length front) 0 in
    let count : length zeros ≡ k = length-replicate (40 - length front) 0 ∙ omega arith in
    let behind : drop at old ≡ zeros = rw is_filled (drop_at front zeros at place) in
    let before : take at old ≡ front = rw is_filled (take_at front zeros at place) in
    let whole : take k zeros ≡ zeros = take_all k zeros (omega arith) in
    let left : drop n zeros ≡ replicate (40 - length front - n) 0 = drop-replicate n (40 - length front) 0 in
    let none : drop k zeros ≡ [] = drop_all k zeros (omega arith) in
    let size_now : 40 - length (front ++ field) ≡ 40 - length front - n = omega (arith, length-append front field) in
    rw (before, behind, none, written, behind, whole, left, append-nil, size_now, append_assoc) refl

-- 32 bytes are written behind the first 40
pub placed_behind : (front back : List ℕ) → length front ≡ 40 → put_mid 40 32 (front ++ replicate 32 0) back ≡ front ++ back
placed_behind front back size =
    rw (take_at front (replicate 32 0) 40 size, drop_at front (replicate 32 0) 40 size, append-nil back) refl
