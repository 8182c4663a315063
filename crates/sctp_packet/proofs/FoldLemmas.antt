-- Folding by a multiple of the polynomial that is a sum of powers of x^8: a byte taken away and added so many bytes further on, for each of a list of distances, leaves the register as it was.
use Rattle.std.proofs.Common.{◌≡◌, ℕ, zero, suc, ◌+◌, ◌-◌, ◌*◌, ◌/◌, ◌%◌, ◌^◌, ◌<◌, ◌≤◌, List, [], ◌∷◌, Bool, true, false, if◌then◌else◌, ◌==◌, bit_xor, refl, sym, ap, ◌∙◌, arith}
use Rattle.std.specs.Int.Bits.{xor_zero_l}
use Rattle.std.proofs.lemmas.Nat.{xor_lt, xor_block, pow-add, pow_pos}
use Rattle.std.proofs.Math.Nat.{pow-suc, mod-lt, div-add-mod, le-mul_of_pos_right}
use Rattle.sctp_packet.specs.Tables.{taken_away, step, steps}
use Rattle.sctp_packet.proofs.StepLemmas.{medial, steps_sum, steps_then, steps_down}

-- ---- a number, and it so many bytes further on, for each of some distances

abbrev pub spread : List ℕ → ℕ → ℕ
spread [] a = a
spread (d ∷ ds) a = bit_xor (spread ds a) (a * 2 ^ (8 * d))

-- the farthest is the top
abbrev pub AreWithin : (top : ℕ) → List ℕ → Type 0
AreWithin top [] = 0 ≤ top
AreWithin top (d ∷ ds) = (d ≤ top) × AreWithin top ds

-- what such a number leaves after as many bytes as the top: it as many bytes back as each is before the top
abbrev pub vanishing : (top : ℕ) → List ℕ → ℕ → ℕ
vanishing top [] a = steps (8 * top) a
vanishing top (d ∷ ds) a = bit_xor (vanishing top ds a) (steps (8 * (top - d)) a)

vanishing_sum : (top : ℕ) (ds : List ℕ) (a b : ℕ) → vanishing top ds (bit_xor a b) ≡ bit_xor (vanishing top ds a) (vanishing top ds b)
vanishing_sum top [] a b = steps_sum (8 * top) a b
vanishing_sum top (d ∷ ds) a b =
    let n = 8 * (top - d) in
    rw (vanishing_sum top ds a b, steps_sum n a b) (medial (vanishing top ds a) (vanishing top ds b) (steps n a) (steps n b))

-- ---- every register's

steps_zero : (n : ℕ) → steps n 0 ≡ 0
unfolding step steps
steps_zero zero = refl
steps_zero (suc n) = steps_zero n

-- two numbers of steps may change places
steps_swap : (m n a : ℕ) → steps m (steps n a) ≡ steps n (steps m a)
steps_swap m n a =
    let same : n + m ≡ m + n = omega arith in
    sym (steps_then n m a) ∙ (ap (λ (k : ℕ). steps k a) same ∙ steps_then m n a)

vanishing_steps : (top : ℕ) (ds : List ℕ) (m a : ℕ) → vanishing top ds (steps m a) ≡ steps m (vanishing top ds a)
vanishing_steps top [] m a = steps_swap (8 * top) m a
vanishing_steps top (d ∷ ds) m a =
    let n = 8 * (top - d) in
    rw (vanishing_steps top ds m a, steps_swap n m a) (sym (steps_sum m (vanishing top ds a) (steps n a)))

vanishing_zero : (top : ℕ) (ds : List ℕ) → vanishing top ds 0 ≡ 0
vanishing_zero top [] = steps_zero (8 * top)
vanishing_zero top (d ∷ ds) = rw (vanishing_zero top ds, steps_zero (8 * (top - d))) refl

-- all vanishes if the highest bit does
module _ (top : ℕ) (ds : List ℕ) (highest : vanishing top ds (2 ^ 31) ≡ 0) where
  power_vanishes : (i : ℕ) → i ≤ 31 → vanishing top ds (2 ^ i) ≡ 0
  power_vanishes i few =
      let n = 31 - i in
      let count : i + n ≡ 31 = omega (arith, few) in
      let power : 2 ^ 31 ≡ 2 ^ i * 2 ^ n = ap (λ (k : ℕ). 2 ^ k) (sym count) ∙ pow-add 2 i n in
      let down : 2 ^ i ≡ steps n (2 ^ 31) = sym (ap (steps n) power ∙ steps_down n (2 ^ i)) in
      ap (vanishing top ds) down ∙ (vanishing_steps top ds n (2 ^ 31) ∙ (ap (steps n) highest ∙ steps_zero n))

  vanishes : (k a : ℕ) → k ≤ 32 → a < 2 ^ k → vanishing top ds a ≡ 0
  vanishes zero a few small = let none : a ≡ 0 = omega (arith, small) in ap (vanishing top ds) none ∙ vanishing_zero top ds
  vanishes (suc k) a few small = by_top (a / 2 ^ k) refl (vanishes k (a % 2 ^ k) (omega (arith, few)) (mod-lt a (pow_pos k)))
    where
      power : 2 ^ suc k ≡ 2 ^ k * 2
      power = pow-suc 2 k

      whole : (q : ℕ) → a / 2 ^ k ≡ q → a ≡ 2 ^ k * q + a % 2 ^ k
      whole q is = sym (div-add-mod a (2 ^ k)) ∙ ap (λ (n : ℕ). 2 ^ k * n + a % 2 ^ k) is

      by_top : (q : ℕ) → a / 2 ^ k ≡ q → vanishing top ds (a % 2 ^ k) ≡ 0 → vanishing top ds a ≡ 0
      by_top zero is below = ap (vanishing top ds) (let w = whole 0 is in omega (arith, w)) ∙ below
      by_top (suc zero) is below =
          let sum = xor_block k 1 0 0 (a % 2 ^ k) (pow_pos k) (mod-lt a (pow_pos k)) in
          let left : 1 * 2 ^ k + 0 ≡ 2 ^ k = omega arith in
          let right : 0 * 2 ^ k + a % 2 ^ k ≡ a % 2 ^ k = omega arith in
          let apart : bit_xor (2 ^ k) (a % 2 ^ k) ≡ bit_xor 1 0 * 2 ^ k + bit_xor 0 (a % 2 ^ k) = ap (bit_xor (2 ^ k)) (sym right) ∙ (ap (λ (n : ℕ). bit_xor n (0 * 2 ^ k + a % 2 ^ k)) (sym left) ∙ sum) in
          let same : a ≡ bit_xor (2 ^ k) (a % 2 ^ k) = let w = whole 1 is in let z = xor_zero_l (a % 2 ^ k) in omega (arith, w, z, apart) in
          ap (vanishing top ds) same ∙ (vanishing_sum top ds (2 ^ k) (a % 2 ^ k) ∙ rw (power_vanishes k (omega (arith, few)), below) refl)
      by_top (suc (suc q)) is below = absurd (let w = whole (suc (suc q)) is in let m : 2 ^ k * suc (suc q) ≡ 2 ^ k * q + 2 ^ k * 2 = omega arith in omega (arith, w, m, power, small))

-- ---- longer numbers

away_fits : (lowest : Bool) (n : ℕ) → (if lowest then 0x82F6_3B78 else 0) < 2 ^ (32 + n)
away_fits lowest n = by lowest
  where
    wide : 2 ^ 32 ≤ 2 ^ (32 + n)
    wide = let more = pow_pos n in rw (pow-add 2 32 n) (le-mul_of_pos_right (2 ^ 32) more)

    by : (b : Bool) → (if b then 0x82F6_3B78 else 0) < 2 ^ (32 + n)
    by true = let w = wide in omega (arith, w)
    by false = let w = wide in omega (arith, w)

-- what stands above the 32 bits comes down, one bit a step
steps_fit : (m a : ℕ) → a < 2 ^ (32 + m) → steps m a < 2 ^ 32
unfolding step steps
steps_fit zero a small = small
steps_fit (suc m) a small = steps_fit m (step a) (one_down m a small)
  where
    one_down : (n b : ℕ) → b < 2 ^ (32 + suc n) → step b < 2 ^ (32 + n)
    one_down n b below =
        let power : 2 ^ (32 + suc n) ≡ 2 ^ (32 + n) * 2 = ap (λ (k : ℕ). 2 ^ k) (let e : 32 + suc n ≡ suc (32 + n) = omega arith in e) ∙ pow-suc 2 (32 + n) in
        xor_lt (32 + n) (b / 2) (taken_away (b % 2)) (omega (arith, power, below)) (away_fits (b % 2 == 1) n)

-- so many steps further on it goes by
pub steps_over : (m n a : ℕ) → steps (m + n) (a * 2 ^ m) ≡ steps n a
steps_over m n a = steps_then m n (a * 2 ^ m) ∙ ap (steps n) (steps_down m a)

spread_vanishing : (top : ℕ) (ds : List ℕ) → AreWithin top ds → (a : ℕ) → steps (8 * top) (spread ds a) ≡ vanishing top ds a
spread_vanishing top [] within a = refl
spread_vanishing top (d ∷ ds) within a =
    let count : 8 * top ≡ 8 * d + 8 * (top - d) = omega (arith, within.0) in
    let last : steps (8 * top) (a * 2 ^ (8 * d)) ≡ steps (8 * (top - d)) a = ap (λ (k : ℕ). steps k (a * 2 ^ (8 * d))) count ∙ steps_over (8 * d) (8 * (top - d)) a in
    steps_sum (8 * top) (spread ds a) (a * 2 ^ (8 * d)) ∙ rw (spread_vanishing top ds within.1 a, last) refl

pub spread_goes : (top : ℕ) (ds : List ℕ) → vanishing top ds (2 ^ 31) ≡ 0 → AreWithin top ds → (k n a : ℕ) → a < 2 ^ (32 + k) → steps (8 * top + (k + n)) (spread ds a) ≡ 0
spread_goes top ds highest within k n a small =
    steps_then (8 * top) (k + n) (spread ds a)
    ∙ (ap (steps (k + n)) (spread_vanishing top ds within a)
    ∙ (steps_then k n (vanishing top ds a)
    ∙ (ap (steps n) (sym (vanishing_steps top ds k a) ∙ vanishes top ds highest 32 (steps k a) (omega arith) (steps_fit k a small)) ∙ steps_zero n)))

-- ---- the distances

-- of x^209 + x^144 + x^54 + x^39 + x^14 + 1
abbrev pub FAR : List ℕ
FAR = 209 ∷ 195 ∷ 170 ∷ 155 ∷ 65 ∷ []

pub far_vanishes : vanishing 209 FAR (2 ^ 31) ≡ 0
unfolding step steps
far_vanishes = refl

pub far_within : AreWithin 209 FAR
far_within = (omega arith, (omega arith, (omega arith, (omega arith, (omega arith, omega arith)))))
