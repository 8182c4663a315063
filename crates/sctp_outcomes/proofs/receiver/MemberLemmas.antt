-- What is in a list that was joined, filtered or made from another.
use Rattle.std.proofs.Common.{◌≡◌, ◌⊎◌, Bool, true, false, cond, List, [], ◌∷◌, ◌++◌, map, filter, inl, inr, refl, sym, subst, ap}
use Rattle.std.specs.List.{flat_map}
use Rattle.sctp_model.specs.numbers.Lists.{Has}

has_front : {A : Type 0} (xs ys : List A) (w : A) → Has xs w → Has (xs ++ ys) w
has_front [] ys w h = absurd h
has_front (x ∷ xs) ys w (inl e) = inl e
has_front (x ∷ xs) ys w (inr h) = inr (has_front xs ys w h)

has_back : {A : Type 0} (xs ys : List A) (w : A) → Has ys w → Has (xs ++ ys) w
has_back [] ys w h = h
has_back (x ∷ xs) ys w h = inr (has_back xs ys w h)

has_either : {A : Type 0} (xs ys : List A) (w : A) → Has (xs ++ ys) w → Has xs w ⊎ Has ys w
has_either [] ys w h = inr h
has_either (x ∷ xs) ys w (inl e) = inl (inl e)
has_either (x ∷ xs) ys w (inr h) = go (has_either xs ys w h)
  where
    go : Has xs w ⊎ Has ys w → Has (x ∷ xs) w ⊎ Has ys w
    go (inl k) = inl (inr k)
    go (inr k) = inr k

-- an element of a `flat_map` is from one of the list's
pub has_source : {A B : Type 0} (g : A → List B) (xs : List A) (w : B) → Has (flat_map g xs) w → (x : A) × Has xs x × Has (g x) w
has_source g [] w h = absurd h
has_source {A} g (x ∷ xs) w h = go (has_either (g x) (flat_map g xs) w h) (has_source g xs w)
  where
    go : Has (g x) w ⊎ Has (flat_map g xs) w → (Has (flat_map g xs) w → (z : A) × Has xs z × Has (g z) w) → (z : A) × Has (x ∷ xs) z × Has (g z) w
    go (inl k) more = (x, inl refl, k)
    go (inr k) more = let t = more k in (t.0, inr t.1, t.2)

pub has_image : {A B : Type 0} (g : A → List B) (xs : List A) (x : A) (w : B) → Has xs x → Has (g x) w → Has (flat_map g xs) w
has_image g [] x w h k = absurd h
has_image {A} g (y ∷ xs) x w (inl e) k = has_front (g y) (flat_map g xs) w (subst (λ (z : A). Has (g z) w) (sym e) k)
has_image g (y ∷ xs) x w (inr h) k = has_back (g y) (flat_map g xs) w (has_image g xs x w h k)

-- each list with one element more before it
pub has_longer : {A : Type 0} (y : A) (zs : List (List A)) (ys : List A) → Has zs ys → Has (map (λ (w : List A). y ∷ w) zs) (y ∷ ys)
has_longer y [] ys h = absurd h
has_longer {A} y (z ∷ zs) ys (inl e) = inl (ap (λ (w : List A). y ∷ w) e)
has_longer y (z ∷ zs) ys (inr h) = inr (has_longer y zs ys h)

pub has_shorter : {A : Type 0} (y : A) (zs : List (List A)) (w : List A) → Has (map (λ (v : List A). y ∷ v) zs) w →
    (ys : List A) × (y ∷ ys ≡ w) × Has zs ys
has_shorter y [] w h = absurd h
has_shorter y (z ∷ zs) w (inl e) = (z, e, inl refl)
has_shorter y (z ∷ zs) w (inr h) = let t = has_shorter y zs w h in (t.0, t.1, inr t.2)

-- what is filtered is in the list and passes, and the other way round
pub filtered_has : {A : Type 0} (test : A → Bool) (xs : List A) (w : A) → Has (filter test xs) w → Has xs w × (test w ≡ true)
filtered_has test [] w h = absurd h
filtered_has {A} test (y ∷ xs) w h = go (test y) refl (filtered_has test xs w) h
  where
    go : (b : Bool) → test y ≡ b → (Has (filter test xs) w → Has xs w × (test w ≡ true)) → Has (cond b (y ∷ filter test xs) (filter test xs)) w → Has (y ∷ xs) w × (test w ≡ true)
    go true e more (inl k) = (inl k, subst (λ (z : A). test z ≡ true) k e)
    go true e more (inr k) = let t = more k in (inr t.0, t.1)
    go false e more k = let t = more k in (inr t.0, t.1)

pub has_filtered : {A : Type 0} (test : A → Bool) (xs : List A) (w : A) → Has xs w → test w ≡ true → Has (filter test xs) w
has_filtered test [] w h t = absurd h
has_filtered {A} test (y ∷ xs) w h t = go (test y) refl (λ k. has_filtered test xs w k t) h
  where
    go : (b : Bool) → test y ≡ b → (Has xs w → Has (filter test xs) w) → Has (y ∷ xs) w → Has (cond b (y ∷ filter test xs) (filter test xs)) w
    go true e more (inl k) = inl k
    go true e more (inr k) = inr (more k)
    go false e more (inl k) = let same : test y ≡ test w = ap test k in absurd (cc)
    go false e more (inr k) = more k
