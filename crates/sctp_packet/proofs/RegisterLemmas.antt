-- The register holds the leading part of what is divided: after all bits of a message it is the remainder.
-- A byte is eight single steps: its bits may be added to the register first, and eight zeros come in.
use Rattle.std.proofs.Common.{◌≡◌, ℕ, zero, suc, ◌+◌, ◌<◌, Bool, true, false, List, [], ◌∷◌, ◌++◌, length, refl, sym, ap, ◌∙◌, arith, length-append, append_assoc, append-nil, add-one}
use Rattle.std.proofs.lemmas.List.{length-replicate}
use Rattle.sctp_packet.specs.Remainder.{plus, zeros, add, scale, divide}
use Rattle.sctp_packet.specs.Register.{shifted, register_after}
use Rattle.sctp_packet.proofs.AddLemmas.{plus_false, add_swap, add_zeros, add_append, length_add, length_scale}

zeros_snoc : (n : ℕ) → zeros n ++ false ∷ [] ≡ zeros (suc n)
zeros_snoc zero = refl
zeros_snoc (suc n) = ap (λ (x : List Bool). false ∷ x) (zeros_snoc n)

length_snoc : (f : List Bool) → length (f ++ false ∷ []) ≡ suc (length f)
length_snoc f = length-append f (false ∷ []) ∙ omega arith

-- one step keeps the register's length
length_shifted : (tail rs : List Bool) (r m : Bool) → length (r ∷ rs) ≡ length tail → length (shifted tail (r ∷ rs) m) ≡ length tail
length_shifted tail rs r m e =
    let wide : length (rs ++ false ∷ []) ≡ suc (length rs) = length_snoc rs in
    let scaled : length (scale (plus r m) tail) ≡ length tail = length_scale (plus r m) tail in
    length_add (rs ++ false ∷ []) (scale (plus r m) tail) (omega arith) ∙ omega arith

-- ---- the register is the remainder

-- one step of long division, where the register stands in front of n zeros, and ms is what comes in later
division_step : (tail rs ms : List Bool) (c : Bool) (n : ℕ) → suc (length rs) ≡ length tail
    → add (add (rs ++ false ∷ zeros n) ms) (scale c tail ++ zeros n) ≡ add (add (rs ++ false ∷ []) (scale c tail) ++ zeros n) ms
division_step tail rs ms c n e =
    let apart : (rs ++ false ∷ []) ++ zeros n ≡ rs ++ false ∷ zeros n = append_assoc rs (false ∷ []) (zeros n) in
    let same : length (rs ++ false ∷ []) ≡ length (scale c tail) = length_snoc rs ∙ (e ∙ sym (length_scale c tail)) in
    let none : add (zeros n) (zeros n) ≡ zeros n = add_zeros (zeros n) n (length-replicate n false) in
    add_swap (rs ++ false ∷ zeros n) ms (scale c tail ++ zeros n)
    ∙ ap (λ (x : List Bool). add x ms)
    (ap (λ (x : List Bool). add x (scale c tail ++ zeros n)) (sym apart)
    ∙ (add_append (rs ++ false ∷ []) (zeros n) (scale c tail) (zeros n) same ∙ ap (λ (x : List Bool). add (rs ++ false ∷ []) (scale c tail) ++ x) none))

pub register_is_remainder : (tail rs ms : List Bool) → length rs ≡ length tail → 0 < length tail
    → divide (length ms) (true ∷ tail) (add (rs ++ zeros (length ms)) (ms ++ zeros (length tail))) ≡ register_after tail rs ms
register_is_remainder tail rs [] e some = rw (append-nil rs) (add_zeros rs (length tail) e)
register_is_remainder tail [] (m ∷ ms) e some = absurd (omega arith)
register_is_remainder tail (r ∷ rs) (m ∷ ms) e some =
    let step = division_step tail rs (ms ++ zeros (length tail)) (plus r m) (length ms) e in
    ap (λ (x : List Bool). divide (length ms) (true ∷ tail) x) step
    ∙ register_is_remainder tail (shifted tail (r ∷ rs) m) ms (length_shifted tail rs r m e) some

-- ---- a byte is eight single steps

-- bits that stand in the register already come in as zeros
pub steps_at_once : (tail rs ms : List Bool) (k : ℕ) → length rs ≡ length tail → length rs ≡ length ms + k
    → register_after tail (add rs (ms ++ zeros k)) (zeros (length ms)) ≡ register_after tail rs ms
steps_at_once tail rs [] k e room = add_zeros rs k (omega arith)
steps_at_once tail [] (m ∷ ms) k e room = absurd (omega arith)
steps_at_once tail (r ∷ rs) (m ∷ ms) k e room =
    let same : length rs ≡ length (ms ++ zeros k) = sym (length-append ms (zeros k) ∙ omega (arith, length-replicate k false)) in
    let longer : add (rs ++ false ∷ []) (ms ++ zeros (suc k)) ≡ add rs (ms ++ zeros k) ++ false ∷ [] =
    ap (λ (x : List Bool). add (rs ++ false ∷ []) x) (sym (append_assoc ms (zeros k) (false ∷ []) ∙ ap (λ (x : List Bool). ms ++ x) (zeros_snoc k)))
    ∙ add_append rs (false ∷ []) (ms ++ zeros k) (false ∷ []) same in
    let step : add (add rs (ms ++ zeros k) ++ false ∷ []) (scale (plus (plus r m) false) tail) ≡ add (shifted tail (r ∷ rs) m) (ms ++ zeros (suc k)) =
    ap (λ (c : Bool). add (add rs (ms ++ zeros k) ++ false ∷ []) (scale c tail)) (plus_false (plus r m))
    ∙ (ap (λ (x : List Bool). add x (scale (plus r m) tail)) (sym longer) ∙ add_swap (rs ++ false ∷ []) (ms ++ zeros (suc k)) (scale (plus r m) tail)) in
    let shorter : length (shifted tail (r ∷ rs) m) ≡ length tail = length_shifted tail rs r m e in
    ap (λ (x : List Bool). register_after tail x (zeros (length ms))) step
    ∙ steps_at_once tail (shifted tail (r ∷ rs) m) ms (suc k) shorter (omega arith)

-- ---- more bits

pub register_after-append : (tail rs ms ns : List Bool) → register_after tail rs (ms ++ ns) ≡ register_after tail (register_after tail rs ms) ns
register_after-append tail rs [] ns = refl
register_after-append tail rs (m ∷ ms) ns = register_after-append tail (shifted tail rs m) ms ns

pub register_after_zero : (tail rs : List Bool) (n : ℕ) → register_after tail rs (zeros (suc n)) ≡ shifted tail (register_after tail rs (zeros n)) false
register_after_zero tail rs n =
    ap (λ (x : List Bool). register_after tail rs x) (sym (zeros_snoc n)) ∙ register_after-append tail rs (zeros n) (false ∷ [])

-- the step of a loop over such zeros
pub register_after_one_more : (tail rs now after : List Bool) (i : ℕ) → now ≡ register_after tail rs (zeros i) → after ≡ shifted tail now false
    → after ≡ register_after tail rs (zeros (i + 1))
register_after_one_more tail rs now after i here step =
    step ∙ (ap (λ (x : List Bool). shifted tail x false) here ∙ (sym (register_after_zero tail rs i) ∙ ap (λ (n : ℕ). register_after tail rs (zeros n)) (sym (add-one i))))
