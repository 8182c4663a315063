-- Bytes as a function of their place, joined to one number, the lowest first: sums, bytes that are moved on, and the fold of a long run of bytes.
use Rattle.std.proofs.Common.{◌≡◌, ℕ, zero, suc, ◌+◌, ◌-◌, ◌*◌, ◌/◌, ◌%◌, ◌^◌, ◌<◌, ◌≤◌, List, [], ◌∷◌, bit_xor, refl, sym, ap, ◌∙◌, arith}
use Rattle.std.specs.Prelude.{slice_index}
use Rattle.std.specs.Int.Bits.{xor_zero_l}
use Rattle.std.proofs.lemmas.Nat.{xor_block, xor_lt, pow-add, shr-shr}
use Rattle.byteorder.specs.Endian.{little_from}
use Rattle.sctp_packet.specs.Tables.{steps}
use Rattle.sctp_packet.specs.Folding.{byte_of}
use Rattle.sctp_packet.proofs.StepLemmas.{steps_sum}
use Rattle.sctp_packet.proofs.FoldLemmas.{spread, AreWithin, vanishing, spread_goes, steps_over}

-- the number of the first n bytes
abbrev pub joined : ℕ → (ℕ → ℕ) → ℕ
joined zero f = 0
joined (suc n) f = f 0 + 256 * joined n (λ i. f (suc i))

-- the same bytes, so many places on, with zeros in front
abbrev pub moved : ℕ → (ℕ → ℕ) → ℕ → ℕ
moved zero f i = f i
moved (suc d) f zero = 0
moved (suc d) f (suc i) = moved d f i

pub moved_low : (d i : ℕ) (f : ℕ → ℕ) → i < d → moved d f i ≡ 0
moved_low zero i f low = absurd (omega (arith, low))
moved_low (suc d) zero f low = refl
moved_low (suc d) (suc i) f low = moved_low d i f (omega (arith, low))

pub moved_high : (d i : ℕ) (f : ℕ → ℕ) → d ≤ i → moved d f i ≡ f (i - d)
moved_high zero i f high = ap f (omega arith)
moved_high (suc d) zero f high = absurd (omega (arith, high))
moved_high (suc d) (suc i) f high = moved_high d i f (omega (arith, high)) ∙ ap f (omega arith)

-- all are bytes
abbrev pub AreBytes : (ℕ → ℕ) → Type 0
AreBytes f = (i : ℕ) → f i < 256

pub joined_same : (n : ℕ) (f g : ℕ → ℕ) → ((i : ℕ) → i < n → f i ≡ g i) → joined n f ≡ joined n g
joined_same zero f g same = refl
joined_same (suc n) f g same =
    rw (same 0 (omega arith), joined_same n (λ i. f (suc i)) (λ i. g (suc i)) (λ i lt. same (suc i) (omega (arith, lt)))) refl

pub joined_sum : (n : ℕ) (f g : ℕ → ℕ) → AreBytes f → AreBytes g → joined n (λ i. bit_xor (f i) (g i)) ≡ bit_xor (joined n f) (joined n g)
joined_sum zero f g a b = refl
joined_sum (suc n) f g a b =
    let j = joined n (λ i. f (suc i)) in
    let k = joined n (λ i. g (suc i)) in
    let rest : joined n (λ i. bit_xor (f (suc i)) (g (suc i))) ≡ bit_xor j k = joined_sum n (λ i. f (suc i)) (λ i. g (suc i)) (λ i. a (suc i)) (λ i. b (suc i)) in
    let block = xor_block 8 j k (f 0) (g 0) (a 0) (b 0) in
    let left : j * 2 ^ 8 + f 0 ≡ f 0 + 256 * j = omega arith in
    let right : k * 2 ^ 8 + g 0 ≡ g 0 + 256 * k = omega arith in
    let sum : bit_xor (f 0 + 256 * j) (g 0 + 256 * k) ≡ bit_xor j k * 2 ^ 8 + bit_xor (f 0) (g 0) = rw (left, right) at block in
    omega (arith, rest, sum)

-- one byte more is 256 times as much
pub byte_power : (d : ℕ) → 2 ^ (8 * suc d) ≡ 256 * 2 ^ (8 * d)
byte_power d = let count : 8 * suc d ≡ 8 + 8 * d = omega arith in ap (λ (k : ℕ). 2 ^ k) count ∙ pow-add 2 8 (8 * d)

pub joined_moved : (d n : ℕ) (f : ℕ → ℕ) → joined (d + n) (moved d f) ≡ joined n f * 2 ^ (8 * d)
joined_moved zero n f = let none : 0 + n ≡ n = omega arith in rw none (omega arith)
joined_moved (suc d) n f =
    let first : suc d + n ≡ suc (d + n) = omega arith in
    let more : 2 ^ (8 * suc d) ≡ 256 * 2 ^ (8 * d) = byte_power d in
    let below : joined (d + n) (moved d f) ≡ joined n f * 2 ^ (8 * d) = joined_moved d n f in
    let turn : 256 * (joined n f * 2 ^ (8 * d)) ≡ joined n f * (256 * 2 ^ (8 * d)) = omega arith in
    let front : joined (suc (d + n)) (moved (suc d) f) ≡ 256 * joined (d + n) (moved d f) = omega arith in
    ap (λ (k : ℕ). joined k (moved (suc d) f)) first ∙ (front ∙ (ap (λ (x : ℕ). 256 * x) below ∙ (turn ∙ ap (λ (x : ℕ). joined n f * x) (sym more))))

pub joined_none : (n : ℕ) (f : ℕ → ℕ) → ((i : ℕ) → f i ≡ 0) → joined n f ≡ 0
joined_none zero f none = refl
joined_none (suc n) f none = let here = none 0 in let rest = joined_none n (λ i. f (suc i)) (λ i. none (suc i)) in omega (arith, here, rest)

-- where nothing stands behind the first k
pub joined_cut : (k n : ℕ) (f : ℕ → ℕ) → k ≤ n → ((i : ℕ) → k ≤ i → f i ≡ 0) → joined n f ≡ joined k f
joined_cut zero n f le none = joined_none n f (λ i. none i (omega arith))
joined_cut (suc k) zero f le none = absurd (omega (arith, le))
joined_cut (suc k) (suc n) f le none = ap (λ (x : ℕ). f 0 + 256 * x) (joined_cut k n (λ i. f (suc i)) (omega (arith, le)) (λ i at. none (suc i) (omega (arith, at))))

pub joined_fits : (n : ℕ) (f : ℕ → ℕ) → AreBytes f → joined n f < 2 ^ (8 * n)
joined_fits zero f a = omega arith
joined_fits (suc n) f a =
    let first = a 0 in
    let rest = joined_fits n (λ i. f (suc i)) (λ i. a (suc i)) in
    let more = byte_power n in
    omega (arith, first, rest, more)

-- ---- lists, and numbers

pub joined_list : (n i : ℕ) (xs : List ℕ) → joined n (λ k. slice_index xs (i + k)) ≡ little_from i n xs
joined_list zero i xs = refl
joined_list (suc n) i xs =
    let here : i + 0 ≡ i = omega arith in
    let rest : joined n (λ k. slice_index xs (i + suc k)) ≡ joined n (λ k. slice_index xs (suc i + k)) =
    joined_same n (λ k. slice_index xs (i + suc k)) (λ k. slice_index xs (suc i + k)) (λ k lt. ap (slice_index xs) (omega arith)) in
    rw (here, rest, joined_list n (suc i) xs) refl

pub joined_bytes : (n a : ℕ) → a < 2 ^ (8 * n) → joined n (byte_of a) ≡ a
joined_bytes zero a small = omega (arith, small)
joined_bytes (suc n) a small =
    let more = byte_power n in
    let rest : joined n (λ i. byte_of a (suc i)) ≡ joined n (byte_of (a / 256)) =
    joined_same n (λ i. byte_of a (suc i)) (byte_of (a / 256)) (λ i lt. let count : 8 * suc i ≡ 8 + 8 * i = omega arith in ap (λ (k : ℕ). a / 2 ^ k % 256) count ∙ ap (λ (x : ℕ). x % 256) (sym (shr-shr a 8 (8 * i)))) in
    let below : joined n (byte_of (a / 256)) ≡ a / 256 = joined_bytes n (a / 256) (omega (arith, small, more)) in
    let first : byte_of a 0 ≡ a % 256 = omega arith in
    omega (arith, rest, below, first)

-- ---- the fold

-- what falls on a place: the byte there, and those before it by each of some distances
abbrev pub fallen : List ℕ → (ℕ → ℕ) → ℕ → ℕ
fallen [] f i = f i
fallen (d ∷ ds) f i = bit_xor (fallen ds f i) (moved d f i)

moved_bytes : (d : ℕ) (f : ℕ → ℕ) → AreBytes f → AreBytes (moved d f)
moved_bytes zero f a i = a i
moved_bytes (suc d) f a zero = omega arith
moved_bytes (suc d) f a (suc i) = moved_bytes d f a i

fallen_bytes : (ds : List ℕ) (f : ℕ → ℕ) → AreBytes f → AreBytes (fallen ds f)
fallen_bytes [] f a i = a i
fallen_bytes (d ∷ ds) f a i = xor_lt 8 (fallen ds f i) (moved d f i) (fallen_bytes ds f a i) (moved_bytes d f a i)

-- of so many bytes that end before the last ones, as far as they are moved
joined_moved_to : (d k n : ℕ) (f : ℕ → ℕ) → k + d ≤ n → ((i : ℕ) → k ≤ i → f i ≡ 0) → joined n (moved d f) ≡ joined k f * 2 ^ (8 * d)
joined_moved_to d k n f le none =
    let count : n ≡ d + (n - d) = omega (arith, le) in
    ap (λ (m : ℕ). joined m (moved d f)) count ∙ (joined_moved d (n - d) f ∙ ap (λ (x : ℕ). x * 2 ^ (8 * d)) (joined_cut k (n - d) f (omega (arith, le)) none))

joined_fallen : (top : ℕ) (ds : List ℕ) → AreWithin top ds → (k n : ℕ) (f : ℕ → ℕ) → AreBytes f → k + top ≤ n → ((i : ℕ) → k ≤ i → f i ≡ 0) → joined n (fallen ds f) ≡ spread ds (joined k f)
joined_fallen top [] within k n f a le none = joined_cut k n f (omega (arith, le)) none
joined_fallen top (d ∷ ds) within k n f a le none =
    joined_sum n (fallen ds f) (moved d f) (fallen_bytes ds f a) (moved_bytes d f a)
    ∙ rw (joined_fallen top ds within.1 k n f a le none, joined_moved_to d k n f (omega (arith, le, within.0)) none) refl

-- Bytes that are what falls on each place from the first k, with a tail behind these, leave what the tail leaves.
pub folded_steps : (top : ℕ) (ds : List ℕ) → vanishing top ds (2 ^ 31) ≡ 0 → AreWithin top ds → (k n : ℕ) (m f t : ℕ → ℕ) → AreBytes f → AreBytes t → top ≤ n → ((i : ℕ) → k ≤ i → f i ≡ 0) →
    ((i : ℕ) → i < k + n → m i ≡ bit_xor (fallen ds f i) (moved k t i)) → steps (8 * (k + n)) (joined (k + n) m) ≡ steps (8 * n) (joined n t)
folded_steps top ds highest within k n m f t a b long none made =
    let whole : joined (k + n) m ≡ bit_xor (spread ds (joined k f)) (joined n t * 2 ^ (8 * k)) =
    joined_same (k + n) m (λ i. bit_xor (fallen ds f i) (moved k t i)) made
    ∙ (joined_sum (k + n) (fallen ds f) (moved k t) (fallen_bytes ds f a) (moved_bytes k t b)
    ∙ rw (joined_fallen top ds within k (k + n) f a (omega (arith, long)) none, joined_moved k n t) refl) in
    let over : steps (8 * (k + n)) (spread ds (joined k f)) ≡ 0 =
    let count : 8 * (k + n) ≡ 8 * top + (8 * k + (8 * n - 8 * top)) = omega (arith, long) in
    ap (λ (j : ℕ). steps j (spread ds (joined k f))) count ∙ spread_goes top ds highest within (8 * k) (8 * n - 8 * top) (joined k f) (wider k (joined k f) (joined_fits k f a)) in
    let last : steps (8 * (k + n)) (joined n t * 2 ^ (8 * k)) ≡ steps (8 * n) (joined n t) =
    let count : 8 * (k + n) ≡ 8 * k + 8 * n = omega arith in
    ap (λ (j : ℕ). steps j (joined n t * 2 ^ (8 * k))) count ∙ steps_over (8 * k) (8 * n) (joined n t) in
    ap (steps (8 * (k + n))) whole ∙ (steps_sum (8 * (k + n)) (spread ds (joined k f)) (joined n t * 2 ^ (8 * k)) ∙ (rw (over, last) refl ∙ xor_zero_l (steps (8 * n) (joined n t))))
  where
    wider : (j x : ℕ) → x < 2 ^ (8 * j) → x < 2 ^ (32 + 8 * j)
    wider j x small = let both : 2 ^ (32 + 8 * j) ≡ 2 ^ 32 * 2 ^ (8 * j) = pow-add 2 32 (8 * j) in omega (arith, both, small)
