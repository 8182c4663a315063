-- A message cut into fragments: how many there are, none of them empty, and joined they are the message (RFC 9260, 6.9).
use Rattle.std.proofs.Common.{◌≡◌, ℕ, zero, suc, ◌+◌, ◌*◌, ◌%◌, ◌/◌, ◌<◌, ◌≤◌, inl, inr, List, [], ◌++◌, length, map, take, drop, refl, sym, ap, ◌∙◌, subst, arith, length-drop, get_or}
use Rattle.std.specs.Prelude.{min}
use Rattle.std.specs.Int.{div_ceil}
use Rattle.std.proofs.Math.Nat.{mul-le-mul_right}
use Rattle.std.proofs.Math.ListN.{drop_of_length-le}
use Rattle.std.proofs.lemmas.Grind.{div_ceil_times}
use Rattle.std.proofs.lemmas.List.{length-map, length-take, take-append-drop, drop-drop}
use Rattle.sctp_model.specs.numbers.Lists.{Has, joined}
use Rattle.sctp_model.specs.sender.Words.{count_up}
use Rattle.sctp_model.specs.sender.Queueing.{fragment_of, cut}
use Rattle.sctp_model.proofs.sender.WordLaws.{length-count_up}

pub length-cut : (size : ℕ) (bytes : List ℕ) → length (cut size bytes) ≡ div_ceil (length bytes) size
length-cut size bytes = rw (length-map (count_up 0 (div_ceil (length bytes) size)) (fragment_of size bytes)) (length-count_up 0 (div_ceil (length bytes) size))

-- what has a byte takes a fragment
ceil_some : (n size : ℕ) → 0 < n → 0 < size → 0 < div_ceil n size
ceil_some n size some large = let whole : size * (n / size) + n % size ≡ n = omega arith in by_count (n / size) (n % size) whole
  where
    by_count : (x y : ℕ) → size * x + y ≡ n → 0 < x + min 1 y
    by_count zero y is = let none : size * 0 ≡ 0 = omega arith in omega arith
    by_count (suc x) y is = omega arith

pub cut_some : (size : ℕ) (bytes : List ℕ) → 0 < size → 0 < length bytes → 0 < length (cut size bytes)
cut_some size bytes large some = rw (length-cut size bytes) (ceil_some (length bytes) size some large)

-- what is said of a function at the numbers counted is said of one of them
counted_has : {A : Type 0} (g : ℕ → A) (i n : ℕ) (x : A) → Has (map g (count_up i n)) x → (j : ℕ) × (i ≤ j) × (j < i + n) × (g j ≡ x)
counted_has g i zero x has = absurd has
counted_has g i (suc n) x has =
    elim has [
      | inl here ↦ (i, omega arith, omega arith, here)
      | inr later ↦ let r = counted_has g (suc i) n x later in let lo = r.1 in let hi = r.2 in (r.0, omega arith, omega arith, r.3)
    ]

-- a fragment begins within the message
begins_within : (size n k : ℕ) → 0 < size → k < div_ceil n size → k * size < n
begins_within size n k large lt =
    let up = (div_ceil_times n size large).1 in
    let step : suc k * size ≤ div_ceil n size * size = mul-le-mul_right size lt in
    let one : suc k * size ≡ size + k * size = omega arith in
    omega (arith, up, step, one)

pub each_full : (size : ℕ) (bytes : List ℕ) (x : List ℕ) → 0 < size → Has (cut size bytes) x → 0 < length x
each_full size bytes x large has =
    let r = counted_has (fragment_of size bytes) 0 (div_ceil (length bytes) size) x has in
    let low : r.0 < div_ceil (length bytes) size = let hi = r.2 in omega arith in
    let inside = begins_within size (length bytes) r.0 large low in
    let long : length (fragment_of size bytes r.0) ≡ min size (length (drop (r.0 * size) bytes)) = length-take size (drop (r.0 * size) bytes) in
    let left = length-drop (r.0 * size) bytes in
    let some : 0 < length (fragment_of size bytes r.0) = omega (arith, long, left, inside, large) in
    subst (λ (y : List ℕ). 0 < length y) r.3 some

-- from one fragment on, they are the bytes from there on
joined_from : (size : ℕ) (bytes : List ℕ) (k n : ℕ) → length bytes ≤ (k + n) * size → joined (map (fragment_of size bytes) (count_up k n)) ≡ drop (k * size) bytes
joined_from size bytes k zero all = let same : k + 0 ≡ k = omega arith in sym (drop_of_length-le bytes (rw same at all))
joined_from size bytes k (suc n) all =
    let next : suc k + n ≡ k + suc n = omega arith in
    let rest = joined_from size bytes (suc k) n (rw next all) in
    let further : suc k * size ≡ size + k * size = omega arith in
    let behind : drop size (drop (k * size) bytes) ≡ drop (size + k * size) bytes = drop-drop size (k * size) bytes ∙ (let turned : k * size + size ≡ size + k * size = omega arith in rw turned refl) in
    ap (λ (ys : List ℕ). fragment_of size bytes k ++ ys) (rest ∙ rw further (sym behind)) ∙ take-append-drop size (drop (k * size) bytes)

pub joined_cut : (size : ℕ) (bytes : List ℕ) → 0 < size → joined (cut size bytes) ≡ bytes
joined_cut size bytes large =
    let up = (div_ceil_times (length bytes) size large).0 in
    let none : 0 * size ≡ 0 = omega arith in
    let zeroed : 0 + div_ceil (length bytes) size ≡ div_ceil (length bytes) size = omega arith in
    joined_from size bytes 0 (div_ceil (length bytes) size) (rw zeroed up) ∙ rw none refl

-- ---- the fragment at a place

counted_at : {A : Type 0} (g : ℕ → A) (i n k : ℕ) (d : A) → k < n → get_or (map g (count_up i n)) k d ≡ g (i + k)
counted_at g i zero k d lt = absurd (omega arith)
counted_at g i (suc n) zero d lt = let same : i + 0 ≡ i = omega arith in rw same refl
counted_at g i (suc n) (suc k) d lt = let next : suc i + k ≡ i + suc k = omega arith in rw (← next) (counted_at g (suc i) n k d (omega arith))

pub cut_at : (size k : ℕ) (bytes : List ℕ) → k < length (cut size bytes) → get_or (cut size bytes) k [] ≡ take size (drop (k * size) bytes)
cut_at size k bytes lt =
    let many = length-cut size bytes in
    let same : 0 + k ≡ k = omega arith in
    rw same at (counted_at (fragment_of size bytes) 0 (div_ceil (length bytes) size) k [] (omega (arith, many)))
