-- The register is linear: after zero bits a sum without carries is the sum of what each summand leaves, so eight bytes leave what each leaves in its position.
use Rattle.std.proofs.Common.{◌≡◌, ℕ, zero, suc, ◌+◌, ◌*◌, ◌/◌, ◌%◌, ◌^◌, ◌<◌, bit_xor, refl, sym, ap, ◌∙◌, arith}
use Rattle.std.specs.Int.Bits.{xor_assoc, xor_zero_r}
use Rattle.std.proofs.lemmas.Nat.{xor_mod, xor_shr, xor_comm, xor_block, shr-shr}
use Rattle.std.proofs.Math.Nat.{pow-suc}
use Rattle.sctp_packet.specs.Tables.{taken_away, step, steps}

-- the two in the middle change places
pub medial : (a b c d : ℕ) → bit_xor (bit_xor a b) (bit_xor c d) ≡ bit_xor (bit_xor a c) (bit_xor b d)
medial a b c d =
    xor_assoc a b (bit_xor c d)
    ∙ (ap (bit_xor a) (sym (xor_assoc b c d) ∙ (ap (λ (x : ℕ). bit_xor x d) (xor_comm b c) ∙ xor_assoc c b d))
    ∙ sym (xor_assoc a c (bit_xor b d)))

taken_away_sum : (x y : ℕ) → x < 2 → y < 2 → taken_away (bit_xor x y) ≡ bit_xor (taken_away x) (taken_away y)
taken_away_sum zero zero a b = refl
taken_away_sum zero (suc zero) a b = refl
taken_away_sum (suc zero) zero a b = refl
taken_away_sum (suc zero) (suc zero) a b = refl
taken_away_sum zero (suc (suc y)) a b = absurd (omega arith)
taken_away_sum (suc zero) (suc (suc y)) a b = absurd (omega arith)
taken_away_sum (suc (suc x)) y a b = absurd (omega arith)

-- ---- sums

pub step_sum : (a b : ℕ) → step (bit_xor a b) ≡ bit_xor (step a) (step b)
unfolding step
step_sum a b =
    let away : taken_away (bit_xor a b % 2) ≡ bit_xor (taken_away (a % 2)) (taken_away (b % 2)) =
    ap taken_away (xor_mod a b 1) ∙ taken_away_sum (a % 2) (b % 2) (omega arith) (omega arith) in
    let half : bit_xor a b / 2 ≡ bit_xor (a / 2) (b / 2) = xor_shr a b 1 in
    ap (λ (x : ℕ). bit_xor x (taken_away (bit_xor a b % 2))) half
    ∙ (ap (λ (x : ℕ). bit_xor (bit_xor (a / 2) (b / 2)) x) away
    ∙ medial (a / 2) (b / 2) (taken_away (a % 2)) (taken_away (b % 2)))

pub steps_sum : (n a b : ℕ) → steps n (bit_xor a b) ≡ bit_xor (steps n a) (steps n b)
unfolding steps
steps_sum zero a b = refl
steps_sum (suc n) a b = ap (steps n) (step_sum a b) ∙ steps_sum n (step a) (step b)

-- ---- steps after steps

pub steps_then : (m n a : ℕ) → steps (m + n) a ≡ steps n (steps m a)
unfolding steps
steps_then zero n a = let none : 0 + n ≡ n = omega arith in ap (λ (k : ℕ). steps k a) none
steps_then (suc m) n a =
    let first : suc m + n ≡ suc (m + n) = omega arith in
    ap (λ (k : ℕ). steps k a) first ∙ steps_then m n (step a)

-- an even number only comes down
step_down : (a : ℕ) → step (a * 2) ≡ a
unfolding step
step_down a =
    let even : a * 2 % 2 ≡ 0 = omega arith in
    let half : a * 2 / 2 ≡ a = omega arith in
    rw (even, half) (xor_zero_r a)

pub steps_down : (n a : ℕ) → steps n (a * 2 ^ n) ≡ a
unfolding steps
steps_down zero a = omega arith
steps_down (suc n) a =
    let double : a * 2 ^ suc n ≡ a * 2 ^ n * 2 = ap (λ (x : ℕ). a * x) (pow-suc 2 n) ∙ omega arith in
    ap (λ (x : ℕ). steps n (step x)) double ∙ (ap (steps n) (step_down (a * 2 ^ n)) ∙ steps_down n a)

-- ---- a byte, and what stands above it

apart : (a b : ℕ) → b < 256 → b + 256 * a ≡ bit_xor (a * 2 ^ 8) b
apart a b small =
    let together : bit_xor (a * 2 ^ 8 + 0) (0 * 2 ^ 8 + b) ≡ bit_xor a 0 * 2 ^ 8 + bit_xor 0 b = xor_block 8 a 0 0 b (omega arith) (omega arith) in
    let front : a * 2 ^ 8 + 0 ≡ a * 2 ^ 8 = omega arith in
    let back : 0 * 2 ^ 8 + b ≡ b = omega arith in
    let sum : bit_xor a 0 * 2 ^ 8 + bit_xor 0 b ≡ a * 2 ^ 8 + b = ap (λ (x : ℕ). x * 2 ^ 8 + b) (xor_zero_r a) in
    omega (arith, sum) ∙ (sym (rw (front, back) at together ∙ sum))

-- the byte goes its own way, and what stands above it comes down
pub byte_apart : (n a b : ℕ) → b < 256 → steps (8 + n) (b + 256 * a) ≡ bit_xor (steps n a) (steps (8 + n) b)
byte_apart n a b small =
    ap (steps (8 + n)) (apart a b small)
    ∙ (steps_sum (8 + n) (a * 2 ^ 8) b
    ∙ ap (λ (x : ℕ). bit_xor x (steps (8 + n) b)) (steps_then 8 n (a * 2 ^ 8) ∙ ap (steps n) (steps_down 8 a)))

pub low_byte_apart : (n a : ℕ) → steps (8 + n) a ≡ bit_xor (steps n (a / 2 ^ 8)) (steps (8 + n) (a % 256))
low_byte_apart n a =
    let whole : a ≡ a % 256 + 256 * (a / 2 ^ 8) = omega arith in
    ap (steps (8 + n)) whole ∙ byte_apart n (a / 2 ^ 8) (a % 256) (omega arith)

higher : (n j k a : ℕ) → j + 8 ≡ k → steps (8 + n) (a / 2 ^ j) ≡ bit_xor (steps n (a / 2 ^ k)) (steps (8 + n) (a / 2 ^ j % 256))
higher n j k a e =
    low_byte_apart n (a / 2 ^ j)
    ∙ ap (λ (x : ℕ). bit_xor (steps n x) (steps (8 + n) (a / 2 ^ j % 256))) (shr-shr a j 8 ∙ ap (λ (i : ℕ). a / 2 ^ i) e)

-- what eight bytes leave, the last one first, where m zero bits follow
abbrev pub eight_left : (m : ℕ) → ℕ → ℕ
eight_left m a =
    bit_xor (bit_xor (bit_xor (bit_xor (bit_xor (bit_xor (bit_xor (steps (8 + m) (a / 2 ^ 56)) (steps (8 + (8 + m)) (a / 2 ^ 48 % 256))) (steps (8 + (16 + m)) (a / 2 ^ 40 % 256)))
    (steps (8 + (24 + m)) (a / 2 ^ 32 % 256))) (steps (8 + (32 + m)) (a / 2 ^ 24 % 256))) (steps (8 + (40 + m)) (a / 2 ^ 16 % 256))) (steps (8 + (48 + m)) (a / 2 ^ 8 % 256))) (steps (8 + (56 + m)) (a % 256))

-- the byte at j, and what stands above it in the next place
next_higher : (n k j i a : ℕ) → 8 + n ≡ k → j + 8 ≡ i → steps k (a / 2 ^ j) ≡ bit_xor (steps n (a / 2 ^ i)) (steps (8 + n) (a / 2 ^ j % 256))
next_higher n k j i a count place = ap (λ (x : ℕ). steps x (a / 2 ^ j)) (sym count) ∙ higher n j i a place

pub eight_apart : (m a : ℕ) → steps (8 + (56 + m)) a ≡ eight_left m a
eight_apart m a =
    low_byte_apart (56 + m) a
    ∙ ap (λ (x : ℕ). bit_xor x (steps (8 + (56 + m)) (a % 256)))
    (next_higher (48 + m) (56 + m) 8 16 a (omega arith) refl
    ∙ ap (λ (x : ℕ). bit_xor x (steps (8 + (48 + m)) (a / 2 ^ 8 % 256)))
    (next_higher (40 + m) (48 + m) 16 24 a (omega arith) refl
    ∙ ap (λ (x : ℕ). bit_xor x (steps (8 + (40 + m)) (a / 2 ^ 16 % 256)))
    (next_higher (32 + m) (40 + m) 24 32 a (omega arith) refl
    ∙ ap (λ (x : ℕ). bit_xor x (steps (8 + (32 + m)) (a / 2 ^ 24 % 256)))
    (next_higher (24 + m) (32 + m) 32 40 a (omega arith) refl
    ∙ ap (λ (x : ℕ). bit_xor x (steps (8 + (24 + m)) (a / 2 ^ 32 % 256)))
    (next_higher (16 + m) (24 + m) 40 48 a (omega arith) refl
    ∙ ap (λ (x : ℕ). bit_xor x (steps (8 + (16 + m)) (a / 2 ^ 40 % 256)))
    (next_higher (8 + m) (16 + m) 48 56 a (omega arith) refl))))))

-- a byte is what its number in the table leaves, and the rest comes down
pub byte_left : (a : ℕ) → bit_xor (a / 2 ^ 8) (steps 8 (a % 256)) ≡ steps 8 a
unfolding steps
byte_left a = sym (low_byte_apart 0 a)
