-- Long division by a divisor that begins with 1 leaves a remainder, and no other polynomial is one.
use Rattle.std.proofs.Common.{◌≡◌, ℕ, zero, suc, ◌+◌, ◌-◌, ◌≤◌, Bool, true, false, ◌&&◌, List, [], ◌∷◌, ◌++◌, length, refl, sym, ap, subst, ◌∙◌, arith, length-append}
use Rattle.std.proofs.lemmas.List.{length-replicate}
use Rattle.sctp_packet.specs.Remainder.{plus, zeros, add, scale, times, divide, remainder, IsRemainder}
use Rattle.sctp_packet.proofs.AddLemmas.{add_comm, add_assoc, add_swap, add_zeros, add_twice, length_add, length_moved, scale_head}

pub length_times : (q t : List Bool) → length (times q (true ∷ t)) ≡ length t + length q
length_times [] t = length-replicate (length t) false ∙ omega arith
length_times (c ∷ q) t =
    let here : length (scale c (true ∷ t) ++ zeros (length q)) ≡ suc (length t) + length q = length_moved c (true ∷ t) (length q) in
    let rest : length (times q (true ∷ t)) ≡ length t + length q = length_times q t in
    let same : length (scale c (true ∷ t) ++ zeros (length q)) ≡ suc (length (times q (true ∷ t))) = omega arith in
    length_add (scale c (true ∷ t) ++ zeros (length q)) (false ∷ times q (true ∷ t)) same ∙ omega arith

-- the first of three summands is taken away again
cancel_first : (s f g : List Bool) → length f ≡ length s → add (add (add s f) g) s ≡ add f g
cancel_first s f g e =
    add_swap (add s f) g s ∙ ap (λ (x : List Bool). add x g) (ap (λ (x : List Bool). add x s) (add_comm s f) ∙ add_twice f s e)

-- ---- no other remainder

pub divide_finds : (q r t : List Bool) → length r ≡ length t → divide (length q) (true ∷ t) (add (times q (true ∷ t)) (zeros (length q) ++ r)) ≡ r
divide_finds [] r t e = add_comm (zeros (length t)) r ∙ add_zeros r (length t) e
divide_finds (c ∷ q) r t e =
    let moved : List Bool = scale c t ++ zeros (length q) in
    let product : List Bool = times q (true ∷ t) in
    let low : List Bool = zeros (length q) ++ r in
    let same : length product ≡ length moved = length_times q t ∙ sym (length_moved c t (length q)) in
    let step : add (add (add moved product) low) moved ≡ add product low = cancel_first moved product low same in
    subst (λ (h : Bool). divide (length q) (true ∷ t) (add (add (add moved product) low) (scale h t ++ zeros (length q))) ≡ r)
    (sym (scale_head c))
    (subst (λ (x : List Bool). divide (length q) (true ∷ t) x ≡ r) (sym step) (divide_finds q r t e))

pub remainder_only : (t d r : List Bool) → IsRemainder d (true ∷ t) r → r ≡ remainder (true ∷ t) d
remainder_only t d r h =
    let q : List Bool = h.quotient in
    let same : length r ≡ length t = omega (arith, h.shorter) in
    let low : length (zeros (length q) ++ r) ≡ length q + length t = length-append (zeros (length q)) r ∙ omega (arith, length-replicate (length q) false) in
    let whole : length d ≡ length t + length q =
    ap length h.divides ∙ (length_add (times q (true ∷ t)) (zeros (length q) ++ r) (length_times q t ∙ omega arith) ∙ length_times q t) in
    let steps : length q ≡ length d - length t = omega arith in
    sym (divide_finds q r t same) ∙ (ap (λ (x : List Bool). divide (length q) (true ∷ t) x) (sym h.divides) ∙ ap (λ (n : ℕ). divide n (true ∷ t) d) steps)

-- ---- long division leaves a remainder

-- after n steps: a quotient of n coefficients
pub record Divides (n : ℕ) (t d r : List Bool) : Type 0 where
  pub quotient : List Bool
  pub steps : length quotient ≡ n
  pub shorter : length r ≡ length t
  pub divides : d ≡ add (times quotient (true ∷ t)) (zeros n ++ r)

divide_step : (n : ℕ) (c : Bool) (t d r : List Bool) → length d ≡ n + length t → Divides n t (add d (scale c t ++ zeros n)) r → Divides (suc n) t (c ∷ d) r
divide_step n c t d r e h =
    let q : List Bool = h.quotient in
    let moved : List Bool = scale c t ++ zeros n in
    let same : length d ≡ length moved = e ∙ (omega arith ∙ sym (length_moved c t n)) in
    let back : add (add moved (times q (true ∷ t))) (zeros n ++ r) ≡ d =
    add_assoc moved (times q (true ∷ t)) (zeros n ++ r)
    ∙ (ap (λ (x : List Bool). add moved x) (sym h.divides) ∙ (add_comm moved (add d moved) ∙ add_twice d moved same)) in
    let at_n : c ∷ d ≡ plus (plus (c && true) false) false ∷ add (add moved (times q (true ∷ t))) (zeros n ++ r) =
    rw (scale_head c, back) refl in
    let P : ℕ → Type 0 = λ k. c ∷ d ≡ plus (plus (c && true) false) false ∷ add (add (scale c t ++ zeros k) (times q (true ∷ t))) (zeros n ++ r) in
    record { quotient = c ∷ q; steps = ap suc h.steps; shorter = h.shorter; divides = subst P (sym h.steps) at_n }

divide_divides : (n : ℕ) (t d : List Bool) → length d ≡ n + length t → Divides n t d (divide n (true ∷ t) d)
divide_divides zero t d e =
    let same : length d ≡ length t = omega arith in
    record { quotient = []; steps = refl; shorter = same; divides = sym (add_comm (zeros (length t)) d ∙ add_zeros d (length t) same) }
divide_divides (suc n) t [] e = absurd (omega arith)
divide_divides (suc n) t (c ∷ d) e =
    let here : length d ≡ n + length t = omega arith in
    let moved : length (scale c t ++ zeros n) ≡ length t + n = length_moved c t n in
    let same : length d ≡ length (scale c t ++ zeros n) = omega arith in
    let kept : length (add d (scale c t ++ zeros n)) ≡ n + length t = length_add d (scale c t ++ zeros n) same ∙ here in
    divide_step n c t d (divide n (true ∷ t) (add d (scale c t ++ zeros n))) here (divide_divides n t (add d (scale c t ++ zeros n)) kept)

pub remainder_is : (t d : List Bool) → length t ≤ length d → IsRemainder d (true ∷ t) (remainder (true ∷ t) d)
remainder_is t d e =
    let h : Divides (length d - length t) t d (divide (length d - length t) (true ∷ t) d) = divide_divides (length d - length t) t d (omega arith) in
    let r : List Bool = divide (length d - length t) (true ∷ t) d in
    let P : ℕ → Type 0 = λ k. d ≡ add (times h.quotient (true ∷ t)) (zeros k ++ r) in
    record { quotient = h.quotient; shorter = ap suc h.shorter; divides = subst P (sym h.steps) h.divides }
