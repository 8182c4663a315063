-- Plain facts on lists, on lanes, and on functions changed at one argument.
use Rattle.std.proofs.Common.{◌≡◌, ℕ, zero, suc, ◌+◌, ◌<◌, ◌≤◌, ◌⊎◌, Bool, true, false, cond, ◌==◌, List, [], ◌∷◌, ◌++◌, length, slice_get, filter, Some, inl, inr, refl, sym, subst, ap, arith, eqb-true}
use Rattle.std.proofs.lemmas.Bool.{eqb-false, cond_both, cases_eq, and_parts, cases_Bool, eq-eqb}
use Rattle.sctp_model.specs.numbers.Lists.{Has, item_at, at}
use Rattle.sctp_model.specs.messages.Format.{Kind, Ordered, Unordered, Lane, same_kind, same_lane, at_lane}

-- a fact of a function changed at one argument
pub at_cases : {A : Type 0} (P : A → Type 0) (f : ℕ → A) (s : ℕ) (v : A) (t : ℕ) →
    (t ≡ s → P v) → ((t ≡ s → ⊥) → P (f t)) → P (at f s v t)
at_cases P f s v t here there = cond_both (t == s) v (f t) P (λ e. here (eqb-true t s e)) (λ e. there (eqb-false t s e))

pub at_same : {A : Type 0} (f : ℕ → A) (s : ℕ) (v : A) → at f s v s ≡ v
at_same f s v = at_cases (λ x. x ≡ v) f s v s (λ e. refl) (λ ne. absurd (ne refl))

pub at_other : {A : Type 0} (f : ℕ → A) (s : ℕ) (v : A) (t : ℕ) → (t ≡ s → ⊥) → at f s v t ≡ f t
at_other f s v t ne = at_cases (λ x. x ≡ f t) f s v t (λ e. absurd (ne e)) (λ d. refl)

pub same_kind-true : (a b : Kind) → same_kind a b ≡ true → a ≡ b
same_kind-true Ordered Ordered e = refl
same_kind-true Ordered Unordered e = absurd (cc)
same_kind-true Unordered Ordered e = absurd (cc)
same_kind-true Unordered Unordered e = refl

pub same_kind-refl : (a : Kind) → same_kind a a ≡ true
same_kind-refl Ordered = refl
same_kind-refl Unordered = refl

pub lane_is : (l k : Lane) → l.stream ≡ k.stream → l.kind ≡ k.kind → l ≡ k
lane_is l k a b =
    subst (λ (u : ℕ). l ≡ record { stream = u; kind = k.kind }) a
    (subst (λ (z : Kind). l ≡ record { stream = l.stream; kind = z }) b refl)

pub same_lane-true : (l k : Lane) → same_lane l k ≡ true → l ≡ k
same_lane-true l k e =
    let p = and_parts (l.stream == k.stream) (same_kind l.kind k.kind) e in
    lane_is l k (eqb-true l.stream k.stream p.0) (same_kind-true l.kind k.kind p.1)

pub same_lane-refl : (l : Lane) → same_lane l l ≡ true
same_lane-refl l =
    let a = eq-eqb l.stream l.stream refl in
    let b = same_kind-refl l.kind in
    rw (a, b) refl

pub same_lane-false : (l k : Lane) → same_lane l k ≡ false → l ≡ k → ⊥
same_lane-false l k e q =
    let x : same_lane l l ≡ same_lane l k = ap (same_lane l) q in
    let y = same_lane-refl l in
    absurd (cc)

-- two lanes are the same, or not
pub lane_cases : (l k : Lane) → (l ≡ k) ⊎ (l ≡ k → ⊥)
lane_cases l k = go (cases_Bool (same_lane l k))
  where
    go : (same_lane l k ≡ true) ⊎ (same_lane l k ≡ false) → (l ≡ k) ⊎ (l ≡ k → ⊥)
    go (inl e) = inl (same_lane-true l k e)
    go (inr e) = inr (same_lane-false l k e)

pub at_lane_cases : {A : Type 0} (P : A → Type 0) (f : Lane → A) (l : Lane) (v : A) (k : Lane) →
    (k ≡ l → P v) → ((k ≡ l → ⊥) → P (f k)) → P (at_lane f l v k)
at_lane_cases P f l v k here there =
    cond_both (same_lane k l) v (f k) P (λ e. here (same_lane-true k l e)) (λ e. there (same_lane-false k l e))

pub at_lane_same : {A : Type 0} (f : Lane → A) (l : Lane) (v : A) → at_lane f l v l ≡ v
at_lane_same f l v = at_lane_cases (λ x. x ≡ v) f l v l (λ e. refl) (λ ne. absurd (ne refl))

pub at_lane_other : {A : Type 0} (f : Lane → A) (l : Lane) (v : A) (k : Lane) → (k ≡ l → ⊥) → at_lane f l v k ≡ f k
at_lane_other f l v k ne = at_lane_cases (λ x. x ≡ f k) f l v k (λ e. absurd (ne e)) (λ d. refl)

pub Has-left : {A : Type 0} (xs ys : List A) (x : A) → Has xs x → Has (xs ++ ys) x
Has-left [] ys x h = absurd h
Has-left (y ∷ xs) ys x (inl e) = inl e
Has-left (y ∷ xs) ys x (inr h) = inr (Has-left xs ys x h)

pub Has-right : {A : Type 0} (xs ys : List A) (x : A) → Has ys x → Has (xs ++ ys) x
Has-right [] ys x h = h
Has-right (y ∷ xs) ys x h = inr (Has-right xs ys x h)

pub Has-cases : {A : Type 0} (xs ys : List A) (x : A) → Has (xs ++ ys) x → Has xs x ⊎ Has ys x
Has-cases [] ys x h = inr h
Has-cases (y ∷ xs) ys x (inl e) = inl (inl e)
Has-cases (y ∷ xs) ys x (inr h) = more (Has-cases xs ys x h)
  where
    more : Has xs x ⊎ Has ys x → Has (y ∷ xs) x ⊎ Has ys x
    more (inl k) = inl (inr k)
    more (inr k) = inr k

pub Has-push : {A : Type 0} (xs : List A) (y x : A) → Has (xs ++ y ∷ []) x → Has xs x ⊎ (y ≡ x)
Has-push xs y x h = last (Has-cases xs (y ∷ []) x h)
  where
    last : Has xs x ⊎ ((y ≡ x) ⊎ ⊥) → Has xs x ⊎ (y ≡ x)
    last (inl k) = inl k
    last (inr (inl e)) = inr e
    last (inr (inr a)) = absurd a

-- what is in a list without one element was in the whole list
pub Has-around : {A : Type 0} (xs ys : List A) (y x : A) → Has (xs ++ ys) x → Has (xs ++ y ∷ ys) x
Has-around xs ys y x h = go (Has-cases xs ys x h)
  where
    go : Has xs x ⊎ Has ys x → Has (xs ++ y ∷ ys) x
    go (inl k) = Has-left xs (y ∷ ys) x k
    go (inr k) = Has-right xs (y ∷ ys) x (inr k)

pub Has-filtered : {A : Type 0} (test : A → Bool) (xs : List A) (x : A) → Has (filter test xs) x → Has xs x
Has-filtered test [] x h = h
Has-filtered test (y ∷ xs) x h = go (test y) (Has-filtered test xs x) h
  where
    go : (b : Bool) → (Has (filter test xs) x → Has xs x) → Has (cond b (y ∷ filter test xs) (filter test xs)) x → Has (y ∷ xs) x
    go true more (inl e) = inl e
    go true more (inr k) = inr (more k)
    go false more k = inr (more k)

pub Has-filter : {A : Type 0} (test : A → Bool) (xs : List A) (x : A) → test x ≡ true → Has xs x → Has (filter test xs) x
Has-filter test [] x t h = h
Has-filter test (y ∷ xs) x t h = go (test y) refl (Has-filter test xs x t) h
  where
    go : (b : Bool) → test y ≡ b → (Has xs x → Has (filter test xs) x) → Has (y ∷ xs) x → Has (cond b (y ∷ filter test xs) (filter test xs)) x
    go true e more (inl k) = inl k
    go true e more (inr k) = inr (more k)
    go false e more (inl k) = absurd (let f : test y ≡ test x = ap test k in cc)
    go false e more (inr k) = more k

pub filter_is : {A : Type 0} (test : A → Bool) (xs : List A) (x : A) → Has (filter test xs) x → test x ≡ true
filter_is test [] x h = absurd h
filter_is test (y ∷ xs) x h = go (test y) refl (filter_is test xs x) h
  where
    go : (b : Bool) → test y ≡ b → (Has (filter test xs) x → test x ≡ true) → Has (cond b (y ∷ filter test xs) (filter test xs)) x → test x ≡ true
    go true e more (inl k) = let f : test y ≡ test x = ap test k in cc
    go true e more (inr k) = more k
    go false e more k = more k

pub slice_get-left : {A : Type 0} (xs ys : List A) (n : ℕ) (x : A) → slice_get xs n ≡ Some x → slice_get (xs ++ ys) n ≡ Some x
slice_get-left [] ys n x h = absurd (cc)
slice_get-left (y ∷ xs) ys zero x h = h
slice_get-left (y ∷ xs) ys (suc n) x h = slice_get-left xs ys n x h

pub slice_get-end : {A : Type 0} (xs : List A) (y : A) → slice_get (xs ++ y ∷ []) (length xs) ≡ Some y
slice_get-end [] y = refl
slice_get-end (x ∷ xs) y = slice_get-end xs y

-- what is in a list with one more element was there before, or is the new one
pub slice_get-push : {A : Type 0} (xs : List A) (y : A) (n : ℕ) (x : A) → slice_get (xs ++ y ∷ []) n ≡ Some x →
    (slice_get xs n ≡ Some x) ⊎ ((n ≡ length xs) × (y ≡ x))
slice_get-push [] y zero x h = inr (refl, cc)
slice_get-push [] y (suc n) x h = absurd (cc)
slice_get-push (z ∷ xs) y zero x h = inl h
slice_get-push (z ∷ xs) y (suc n) x h = more (slice_get-push xs y n x h)
  where
    more : (slice_get xs n ≡ Some x) ⊎ ((n ≡ length xs) × (y ≡ x)) → (slice_get xs n ≡ Some x) ⊎ ((suc n ≡ suc (length xs)) × (y ≡ x))
    more (inl k) = inl k
    more (inr k) = inr (ap suc k.0, k.1)

pub slice_get-within : {A : Type 0} (xs : List A) (n : ℕ) (x : A) → slice_get xs n ≡ Some x → n < length xs
slice_get-within [] n x h = absurd (cc)
slice_get-within (y ∷ xs) zero x h = omega arith
slice_get-within (y ∷ xs) (suc n) x h = let r : n < length xs = slice_get-within xs n x h in omega arith

-- what is in two lists joined is in the first, or in the second
pub slice_get-cases : {A : Type 0} (xs ys : List A) (n : ℕ) (x : A) → slice_get (xs ++ ys) n ≡ Some x →
    (slice_get xs n ≡ Some x) ⊎ ((j : ℕ) × (n ≡ length xs + j) × (slice_get ys j ≡ Some x))
slice_get-cases [] ys n x h = inr (n, omega arith, h)
slice_get-cases (z ∷ xs) ys zero x h = inl h
slice_get-cases (z ∷ xs) ys (suc n) x h = more (slice_get-cases xs ys n x h)
  where
    more : (slice_get xs n ≡ Some x) ⊎ ((j : ℕ) × (n ≡ length xs + j) × (slice_get ys j ≡ Some x)) →
        (slice_get xs n ≡ Some x) ⊎ ((j : ℕ) × (suc n ≡ suc (length xs) + j) × (slice_get ys j ≡ Some x))
    more (inl k) = inl k
    more (inr (j, e, k)) = inr (j, omega arith, k)

pub slice_get-right : {A : Type 0} (xs ys : List A) (j : ℕ) (x : A) → slice_get ys j ≡ Some x → slice_get (xs ++ ys) (length xs + j) ≡ Some x
slice_get-right [] ys j x h = let e : 0 + j ≡ j = omega arith in rw e h
slice_get-right (z ∷ xs) ys j x h =
    let e : suc (length xs) + j ≡ suc (length xs + j) = omega arith in
    rw e (slice_get-right xs ys j x h)

pub item_at-left : {A : Type 0} (xs ys : List A) (i : ℕ) (x : A) → item_at xs i ≡ Some x → item_at (xs ++ ys) i ≡ Some x
item_at-left xs ys zero x h = h
item_at-left xs ys (suc i) x h = slice_get-left xs ys i x h

pub item_at-within : {A : Type 0} (xs : List A) (i : ℕ) (x : A) → item_at xs i ≡ Some x → i ≤ length xs
item_at-within xs zero x h = omega arith
item_at-within xs (suc i) x h = let l : i < length xs = slice_get-within xs i x h in omega arith

pub item_at-above : {A : Type 0} (xs : List A) (i : ℕ) (x : A) → item_at xs i ≡ Some x → 0 < i
item_at-above xs zero x h = absurd (cc)
item_at-above xs (suc i) x h = omega arith

-- an element after a list: its place is one past the list's length, and j more
pub item_at-cases : {A : Type 0} (xs ys : List A) (i : ℕ) (x : A) → item_at (xs ++ ys) i ≡ Some x →
    (item_at xs i ≡ Some x) ⊎ ((j : ℕ) × (i ≡ suc (length xs) + j) × (slice_get ys j ≡ Some x))
item_at-cases xs ys zero x h = inl h
item_at-cases xs ys (suc i) x h = more (slice_get-cases xs ys i x h)
  where
    more : (slice_get xs i ≡ Some x) ⊎ ((j : ℕ) × (i ≡ length xs + j) × (slice_get ys j ≡ Some x)) →
        (slice_get xs i ≡ Some x) ⊎ ((j : ℕ) × (suc i ≡ suc (length xs) + j) × (slice_get ys j ≡ Some x))
    more (inl k) = inl k
    more (inr (j, e, k)) = inr (j, omega arith, k)

pub item_at-right : {A : Type 0} (xs ys : List A) (j : ℕ) (x : A) → slice_get ys j ≡ Some x → item_at (xs ++ ys) (suc (length xs) + j) ≡ Some x
item_at-right xs ys j x h =
    let e : suc (length xs) + j ≡ suc (length xs + j) = omega arith in
    rw e (slice_get-right xs ys j x h)

-- each number below n, or something else
pub each_or : {P : ℕ → Type 0} {D : Type 0} (n : ℕ) → ((k : ℕ) → k < n → P k ⊎ D) → ((k : ℕ) → k < n → P k) ⊎ D
each_or zero h = inl (λ k l. absurd (omega arith))
each_or {P} {D} (suc n) h = go (h n (omega arith)) (each_or n (λ k l. h k (omega arith)))
  where
    go : P n ⊎ D → ((k : ℕ) → k < n → P k) ⊎ D → ((k : ℕ) → k < suc n → P k) ⊎ D
    go (inr d) r = inr d
    go (inl p) (inr d) = inr d
    go (inl p) (inl f) = inl (λ k l. pick k l (cases_eq k n))
      where
        pick : (k : ℕ) → k < suc n → (k ≡ n) ⊎ (k ≡ n → ⊥) → P k
        pick k l (inl e) = subst P (sym e) p
        pick k l (inr ne) = f k (omega arith)
