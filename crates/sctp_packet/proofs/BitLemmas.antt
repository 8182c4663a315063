-- The bits of a number, the lowest first: of a sum without carries, of a shorter number, of a number with all bits flipped.
use Rattle.std.proofs.Common.{◌≡◌, ℕ, zero, suc, ◌+◌, ◌-◌, ◌*◌, ◌/◌, ◌%◌, ◌^◌, ◌<◌, Bool, true, false, not, cond, nat_eq, List, [], ◌∷◌, ◌++◌, map, length, refl, sym, ap, ◌∙◌, arith, bit_xor}
use Rattle.std.proofs.lemmas.Nat.{xor_mod, xor_shr}
use Rattle.std.proofs.Math.Nat.{pow-suc}
use Rattle.sctp_packet.specs.Remainder.{plus, zeros, add, scale}
use Rattle.sctp_packet.specs.Checksum.{bits, number}
use Rattle.sctp_packet.specs.Register.{shifted}
use Rattle.sctp_packet.proofs.AddLemmas.{add_zeros, scale_true, scale_false}

pub length_bits : (w n : ℕ) → length (bits w n) ≡ w
unfolding bits
length_bits zero n = refl
length_bits (suc w) n = ap suc (length_bits w (n / 2))

-- ---- sums without carries

bit_of_xor : (x y : ℕ) → x < 2 → y < 2 → nat_eq (bit_xor x y) 1 ≡ plus (nat_eq x 1) (nat_eq y 1)
bit_of_xor zero zero a b = refl
bit_of_xor zero (suc zero) a b = refl
bit_of_xor (suc zero) zero a b = refl
bit_of_xor (suc zero) (suc zero) a b = refl
bit_of_xor zero (suc (suc y)) a b = absurd (omega arith)
bit_of_xor (suc zero) (suc (suc y)) a b = absurd (omega arith)
bit_of_xor (suc (suc x)) y a b = absurd (omega arith)

pub bits_xor : (w a b : ℕ) → bits w (bit_xor a b) ≡ add (bits w a) (bits w b)
unfolding bits
bits_xor zero a b = refl
bits_xor (suc w) a b =
    let low : nat_eq (bit_xor a b % 2) 1 ≡ plus (nat_eq (a % 2) 1) (nat_eq (b % 2) 1) =
    ap (λ (x : ℕ). nat_eq x 1) (xor_mod a b 1) ∙ bit_of_xor (a % 2) (b % 2) (omega arith) (omega arith) in
    let high : bits w (bit_xor a b / 2) ≡ add (bits w (a / 2)) (bits w (b / 2)) = ap (bits w) (xor_shr a b 1) ∙ bits_xor w (a / 2) (b / 2) in
    rw (low, high) refl

-- ---- shorter numbers

pub bits_zero : (w : ℕ) → bits w 0 ≡ zeros w
unfolding bits
bits_zero zero = refl
bits_zero (suc w) = ap (λ (x : List Bool). false ∷ x) (bits_zero w)

pub bits_above : (w k v n : ℕ) → v ≡ w + k → n < 2 ^ w → bits v n ≡ bits w n ++ zeros k
unfolding bits
bits_above zero k v n e small =
    let none : n ≡ 0 = omega arith in
    let same : v ≡ k = omega arith in
    ap (bits v) none ∙ (bits_zero v ∙ ap zeros same)
bits_above (suc w) k zero n e small = absurd (omega arith)
bits_above (suc w) k (suc v) n e small =
    let power : 2 ^ suc w ≡ 2 ^ w * 2 = pow-suc 2 w in
    ap (λ (x : List Bool). nat_eq (n % 2) 1 ∷ x) (bits_above w k v (n / 2) (omega arith) (omega arith))

-- ---- numbers from bits

bit_value : (x : ℕ) → x < 2 → cond (nat_eq x 1) 1 0 ≡ x
bit_value zero a = refl
bit_value (suc zero) a = refl
bit_value (suc (suc x)) a = absurd (omega arith)

pub number_bits : (w n : ℕ) → n < 2 ^ w → number (bits w n) ≡ n
unfolding bits number
number_bits zero n small = omega arith
number_bits (suc w) n small =
    let power : 2 ^ suc w ≡ 2 ^ w * 2 = pow-suc 2 w in
    let high : number (bits w (n / 2)) ≡ n / 2 = number_bits w (n / 2) (omega arith) in
    let low : cond (nat_eq (n % 2) 1) 1 0 ≡ n % 2 = bit_value (n % 2) (omega arith) in
    omega arith

bit_flipped : (x : ℕ) → x < 2 → nat_eq (1 - x) 1 ≡ not (nat_eq x 1)
bit_flipped zero a = refl
bit_flipped (suc zero) a = refl
bit_flipped (suc (suc x)) a = absurd (omega arith)

pub bits_not : (w n : ℕ) → n < 2 ^ w → bits w (2 ^ w - 1 - n) ≡ map not (bits w n)
unfolding bits
bits_not zero n small = refl
bits_not (suc w) n small =
    let power : 2 ^ suc w ≡ 2 ^ w * 2 = pow-suc 2 w in
    let rest : (2 ^ suc w - 1 - n) / 2 ≡ 2 ^ w - 1 - n / 2 = omega arith in
    let first : (2 ^ suc w - 1 - n) % 2 ≡ 1 - n % 2 = omega arith in
    let low : nat_eq ((2 ^ suc w - 1 - n) % 2) 1 ≡ not (nat_eq (n % 2) 1) = ap (λ (x : ℕ). nat_eq x 1) first ∙ bit_flipped (n % 2) (omega arith) in
    let high : bits w ((2 ^ suc w - 1 - n) / 2) ≡ map not (bits w (n / 2)) = ap (bits w) rest ∙ bits_not w (n / 2) (omega arith) in
    rw (low, high) refl

-- ---- one step of the register

step_case : (w p moved : ℕ) (lowest : Bool) → bits (suc w) moved ≡ bits w moved ++ false ∷ []
    → bits (suc w) (cond lowest (bit_xor moved p) moved) ≡ add (bits w moved ++ false ∷ []) (scale (plus lowest false) (bits (suc w) p))
step_case w p moved true down =
    bits_xor (suc w) moved p ∙ (ap (λ (x : List Bool). add x (bits (suc w) p)) down ∙ ap (λ (x : List Bool). add (bits w moved ++ false ∷ []) x) (sym (scale_true (bits (suc w) p))))
step_case w p moved false down =
    let same : length (bits w moved ++ false ∷ []) ≡ length (bits (suc w) p) = ap length (sym down) ∙ (length_bits (suc w) moved ∙ sym (length_bits (suc w) p)) in
    down
    ∙ (sym (add_zeros (bits w moved ++ false ∷ []) (length (bits (suc w) p)) same)
    ∙ ap (λ (x : List Bool). add (bits w moved ++ false ∷ []) x) (sym (scale_false (bits (suc w) p))))

-- the register one place down, with the divisor p added where its lowest bit was set
pub step_of : (w p register : ℕ) → register < 2 ^ suc w
    → bits (suc w) (cond (nat_eq (register % 2) 1) (bit_xor (register / 2) p) (register / 2)) ≡ shifted (bits (suc w) p) (bits (suc w) register) false
unfolding bits
step_of w p register small =
    let power : 2 ^ suc w ≡ 2 ^ w * 2 = pow-suc 2 w in
    let down : bits (suc w) (register / 2) ≡ bits w (register / 2) ++ false ∷ [] = bits_above w 1 (suc w) (register / 2) (omega arith) (omega arith) in
    step_case w p (register / 2) (nat_eq (register % 2) 1) down
