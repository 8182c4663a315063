-- A list whose elements are replaced in place, one after the other.
use Rattle.std.proofs.Common.{◌≡◌, ℕ, ◌+◌, ◌<◌, List, ◌∷◌, ◌++◌, [], length, map, take, drop, get_or, set, refl, ap, ◌∙◌, arith, append_assoc}
use Rattle.std.proofs.lemmas.List.{length-map, drop_more, get_or_at, set_at, map_more, length-take-le}

-- one more element of xs is replaced by what f makes of it
pub mapped_more : (f : ℕ → ℕ) (xs ys : List ℕ) (i : ℕ) → i < length xs → ys ≡ map f (take i xs) ++ drop i xs
    → set ys i (f (get_or ys i 0)) ≡ map f (take (i + 1) xs) ++ drop (i + 1) xs
mapped_more f xs ys i h e =
    let x = get_or xs i 0 in
    let front = map f (take i xs) in
    let after = drop (i + 1) xs in
    let split : ys ≡ front ++ x ∷ after = e ∙ ap (λ (rest : List ℕ). front ++ rest) (drop_more xs i 0 h) in
    let taken : length (take i xs) ≡ i = length-take-le i xs (omega arith) in
    let place : length front ≡ i = length-map (take i xs) f ∙ taken in
    let more : map f (take (i + 1) xs) ≡ front ++ f x ∷ [] = map_more f xs i 0 h in
    rw (split, get_or_at front x after 0 i place, set_at front x after (f x) i place, more, append_assoc front (f x ∷ []) after) refl
