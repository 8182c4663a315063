-- Sums of polynomials: a group in which each element is its own opposite.
use Rattle.std.proofs.Common.{◌≡◌, ℕ, zero, suc, ◌+◌, Bool, true, false, ◌&&◌, List, [], ◌∷◌, ◌++◌, length, refl, sym, ap, ◌∙◌, arith, length-append}
use Rattle.std.proofs.lemmas.List.{length-replicate, length-map}
use Rattle.sctp_packet.specs.Remainder.{plus, zeros, add, scale}

pub plus_false : (a : Bool) → plus a false ≡ a
plus_false true = refl
plus_false false = refl

pub plus_comm : (a b : Bool) → plus a b ≡ plus b a
plus_comm true true = refl
plus_comm true false = refl
plus_comm false true = refl
plus_comm false false = refl

pub plus_assoc : (a b c : Bool) → plus (plus a b) c ≡ plus a (plus b c)
plus_assoc true true true = refl
plus_assoc true true false = refl
plus_assoc true false true = refl
plus_assoc true false false = refl
plus_assoc false true true = refl
plus_assoc false true false = refl
plus_assoc false false true = refl
plus_assoc false false false = refl

pub plus_self : (a : Bool) → plus a a ≡ false
plus_self true = refl
plus_self false = refl

pub add_comm : (f g : List Bool) → add f g ≡ add g f
add_comm [] [] = refl
add_comm [] (b ∷ g) = refl
add_comm (a ∷ f) [] = refl
add_comm (a ∷ f) (b ∷ g) = rw (plus_comm a b, add_comm f g)

pub add_assoc : (f g h : List Bool) → add (add f g) h ≡ add f (add g h)
add_assoc [] g h = refl
add_assoc (a ∷ f) [] h = refl
add_assoc (a ∷ f) (b ∷ g) [] = refl
add_assoc (a ∷ f) (b ∷ g) (c ∷ h) = rw (plus_assoc a b c, add_assoc f g h)

-- the last two of three summands change places
pub add_swap : (f g h : List Bool) → add (add f g) h ≡ add (add f h) g
add_swap f g h = add_assoc f g h ∙ (ap (λ (x : List Bool). add f x) (add_comm g h) ∙ sym (add_assoc f h g))

pub add_zeros : (f : List Bool) (n : ℕ) → length f ≡ n → add f (zeros n) ≡ f
add_zeros [] zero e = refl
add_zeros [] (suc n) e = refl
add_zeros (a ∷ f) zero e = cc
add_zeros (a ∷ f) (suc n) e = rw (plus_false a, add_zeros f n (omega arith))

pub add_self : (f : List Bool) → add f f ≡ zeros (length f)
add_self [] = refl
add_self (a ∷ f) = rw (plus_self a, add_self f)

-- what is added twice is taken away again
pub add_twice : (f g : List Bool) → length f ≡ length g → add (add f g) g ≡ f
add_twice f g e = add_assoc f g g ∙ (ap (λ (x : List Bool). add f x) (add_self g) ∙ add_zeros f (length g) e)

pub add_append : (f g h k : List Bool) → length f ≡ length h → add (f ++ g) (h ++ k) ≡ add f h ++ add g k
add_append [] g [] k e = refl
add_append [] g (c ∷ h) k e = absurd (omega arith)
add_append (a ∷ f) g [] k e = absurd (omega arith)
add_append (a ∷ f) g (c ∷ h) k e = rw (add_append f g h k (omega arith))

pub length_add : (f g : List Bool) → length f ≡ length g → length (add f g) ≡ length f
length_add [] [] e = refl
length_add [] (b ∷ g) e = refl
length_add (a ∷ f) [] e = sym e
length_add (a ∷ f) (b ∷ g) e = ap suc (length_add f g (omega arith))

pub scale_true : (g : List Bool) → scale true g ≡ g
scale_true [] = refl
scale_true (b ∷ g) = ap (λ (x : List Bool). b ∷ x) (scale_true g)

pub scale_false : (g : List Bool) → scale false g ≡ zeros (length g)
scale_false [] = refl
scale_false (b ∷ g) = ap (λ (x : List Bool). false ∷ x) (scale_false g)

pub length_scale : (c : Bool) (g : List Bool) → length (scale c g) ≡ length g
length_scale c g = length-map g (λ (b : Bool). c && b)

-- a multiple of a polynomial of k coefficients, moved up by n powers
pub length_moved : (c : Bool) (g : List Bool) (n : ℕ) → length (scale c g ++ zeros n) ≡ length g + n
length_moved c g n = length-append (scale c g) (zeros n) ∙ rw (length_scale c g, length-replicate n false)

pub scale_head : (c : Bool) → plus (plus (c && true) false) false ≡ c
scale_head true = refl
scale_head false = refl
