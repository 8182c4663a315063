-- A message is cut as the relation says, and in one way.
use Rattle.std.proofs.Common.{◌≡◌, ℕ, zero, suc, ◌+◌, ◌-◌, ◌*◌, ◌<◌, ◌≤◌, List, [], ◌∷◌, ◌++◌, length, map, drop, refl, sym, ap, ◌∙◌, subst, arith, length-append, length-drop}
use Rattle.std.specs.Prelude.{min}
use Rattle.std.specs.Int.{div_ceil}
use Rattle.std.proofs.lemmas.Grind.{div_ceil_times}
use Rattle.std.proofs.lemmas.List.{length-take}
use Rattle.sctp_model.specs.numbers.Lists.{joined}
use Rattle.sctp_model.specs.sender.Words.{count_up}
use Rattle.sctp_model.specs.sender.Queueing.{fragment_of, cut}
use Rattle.sctp_model.proofs.sender.CutLaws.{joined_cut}
use Rattle.sctp_outcomes.specs.sender.Cuts.{AreSized, IsCut, CutIsComputed}

-- ---- what is cut has these sizes

long_at : (size : ℕ) (bytes : List ℕ) (k : ℕ) → length (fragment_of size bytes k) ≡ min size (length bytes - k * size)
long_at size bytes k = length-take size (drop (k * size) bytes) ∙ ap (λ n. min size n) (length-drop (k * size) bytes)

sized_from : (size : ℕ) (bytes : List ℕ) (k n : ℕ) → 0 < size → length bytes ≤ (k + n) * size → (k + n) * size < length bytes + size → AreSized size (map (fragment_of size bytes) (count_up k n))
sized_from size bytes k zero large all few = tt
sized_from size bytes k (suc zero) large all few =
    let long = long_at size bytes k in
    let last : (k + 1) * size ≡ k * size + size = omega arith in
    ((omega (arith, long, last, all, few, large), omega (arith, long)), tt)
sized_from size bytes k (suc (suc m)) large all few =
    let long = long_at size bytes k in
    let further : (k + suc (suc m)) * size ≡ k * size + size + size + m * size = omega arith in
    let next : suc k + suc m ≡ k + suc (suc m) = omega arith in
    (omega (arith, long, further, few), sized_from size bytes (suc k) (suc m) large (rw next all) (rw next few))

cut_sized : (size : ℕ) (bytes : List ℕ) → 0 < size → AreSized size (cut size bytes)
cut_sized size bytes large =
    let bounds = div_ceil_times (length bytes) size large in
    let from : 0 + div_ceil (length bytes) size ≡ div_ceil (length bytes) size = omega arith in
    sized_from size bytes 0 (div_ceil (length bytes) size) large (rw from bounds.0) (rw from bounds.1)

-- ---- there is no other way

same_split : (x y a b : List ℕ) → length x ≡ length y → x ++ a ≡ y ++ b → (x ≡ y) × (a ≡ b)
same_split [] [] a b long is = (refl, is)
same_split [] (n ∷ y) a b long is = absurd (omega arith)
same_split (n ∷ x) [] a b long is = absurd (omega arith)
same_split (n ∷ x) (m ∷ y) a b long is =
    let r = same_split x y a b (omega arith) (ap (λ (zs : List ℕ). drop 1 zs) is) in
    let first : n ≡ m = cc in
    (ap (λ (k : ℕ). k ∷ x) first ∙ ap (λ (zs : List ℕ). m ∷ zs) r.0, r.1)

some_in : (size : ℕ) (x : List ℕ) (xs : List (List ℕ)) → 0 < size → AreSized size (x ∷ xs) → 0 < length x
some_in size x [] large h = h.0.0
some_in size x (y ∷ ys) large h = let full = h.0 in omega (arith, full, large)

one_long : (size : ℕ) (x y : List ℕ) (xs ys : List (List ℕ)) → 0 < size → AreSized size (x ∷ xs) → AreSized size (y ∷ ys) → length x + length (joined xs) ≡ length y + length (joined ys) → length x ≡ length y
one_long size x y [] [] large g h long = omega arith
one_long size x y [] (z ∷ zs) large g h long =
    let some = some_in size z zs large h.1 in
    let behind = length-append z (joined zs) in
    let most = g.0.1 in
    let full = h.0 in
    absurd (omega (arith, some, behind, most, full, long))
one_long size x y (z ∷ zs) [] large g h long =
    let some = some_in size z zs large g.1 in
    let behind = length-append z (joined zs) in
    let most = h.0.1 in
    let full = g.0 in
    absurd (omega (arith, some, behind, most, full, long))
one_long size x y (z ∷ zs) (w ∷ ws) large g h long = g.0 ∙ sym h.0

one_cut : (size : ℕ) (xs ys : List (List ℕ)) → 0 < size → AreSized size xs → AreSized size ys → joined xs ≡ joined ys → xs ≡ ys
one_cut size [] [] large g h is = refl
one_cut size [] (y ∷ ys) large g h is =
    let some = some_in size y ys large h in
    let long = ap (λ (zs : List ℕ). length zs) is ∙ length-append y (joined ys) in
    absurd (omega (arith, some, long))
one_cut size (x ∷ xs) [] large g h is =
    let some = some_in size x xs large g in
    let long = sym (length-append x (joined xs)) ∙ ap (λ (zs : List ℕ). length zs) is in
    absurd (omega (arith, some, long))
one_cut size (x ∷ xs) (y ∷ ys) large g h is =
    let long : length x + length (joined xs) ≡ length y + length (joined ys) = sym (length-append x (joined xs)) ∙ ap (λ (zs : List ℕ). length zs) is ∙ length-append y (joined ys) in
    let r = same_split x y (joined xs) (joined ys) (one_long size x y xs ys large g h long) is in
    ap (λ (z : List ℕ). z ∷ xs) r.0 ∙ ap (λ (zs : List (List ℕ)). y ∷ zs) (one_cut size xs ys large g.1 h.1 r.1)

pub cut_is_computed : CutIsComputed
cut_is_computed size bytes xs large = (
  λ is. subst (λ (ys : List (List ℕ)). IsCut size bytes ys) (sym is) (record { whole = joined_cut size bytes large; sized = cut_sized size bytes large }),
  λ h. one_cut size xs (cut size bytes) large h.sized (cut_sized size bytes large) (h.whole ∙ sym (joined_cut size bytes large)),
)
