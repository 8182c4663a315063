-- Entries, or items, each changed by its index: changes that agree, one after the other, one index more, and what they mean.
use Rattle.std.proofs.Common.{◌≡◌, ℕ, zero, suc, ◌+◌, ◌<◌, ◌≤◌, List, [], ◌∷◌, length, map, refl, sym, ap, ◌∙◌, arith}
use Rattle.sctp_send.specs.PartsKept.{changed_at}
use Rattle.sctp_send.specs.inner.Changes.{each_changed}

pub length-each : {A : Type 0} (g : ℕ → A → A) (i : ℕ) (xs : List A) → length (each_changed g i xs) ≡ length xs
length-each g i [] = refl
length-each g i (x ∷ xs) = ap suc (length-each g (suc i) xs)

-- changes that agree where there is something
pub each_same : {A : Type 0} (g h : ℕ → A → A) (i : ℕ) (xs : List A) → ((k : ℕ) (x : A) → i ≤ k → k < i + length xs → g k x ≡ h k x) → each_changed g i xs ≡ each_changed h i xs
each_same g h i [] same = refl
each_same g h i (x ∷ xs) same = rw (same i x (omega arith) (omega arith), each_same g h (suc i) xs (λ k y lo hi. same k y (omega arith) (omega arith))) refl

-- no change
pub each_none : {A : Type 0} (g : ℕ → A → A) (i : ℕ) (xs : List A) → ((k : ℕ) (x : A) → i ≤ k → g k x ≡ x) → xs ≡ each_changed g i xs
each_none g i [] same = refl
each_none g i (x ∷ xs) same = rw (same i x (omega arith), ← each_none g (suc i) xs (λ k y lo. same k y (omega arith))) refl

-- one change after the other
pub each_joined : {A : Type 0} (g h : ℕ → A → A) (i : ℕ) (xs : List A) → each_changed h i (each_changed g i xs) ≡ each_changed (λ k x. h k (g k x)) i xs
each_joined g h i [] = refl
each_joined {A = A} g h i (x ∷ xs) = ap (λ (ys : List A). h i (g i x) ∷ ys) (each_joined g h (suc i) xs)

-- one index more
pub each_step : {A : Type 0} (g h : ℕ → A → A) (f : A → A) (at i : ℕ) (xs : List A) → ((k : ℕ) (x : A) → (k ≡ i + at → ⊥) → g k x ≡ h k x)
    → ((x : A) → f (g (i + at) x) ≡ h (i + at) x) → changed_at f at (each_changed g i xs) ≡ each_changed h i xs
each_step g h f at i [] other here = refl
each_step g h f zero i (x ∷ xs) other here =
    let zeroed : i + 0 ≡ i = omega arith in
    let head : f (g i x) ≡ h i x = rw zeroed at (here x) in
    rw (head, each_same g h (suc i) xs (λ k y lo hi. other k y (λ is. omega arith))) refl
each_step g h f (suc at) i (x ∷ xs) other here =
    let next : suc i + at ≡ i + suc at = omega arith in
    rw (other i x (λ is. omega arith), each_step g h f at (suc i) xs (λ k y apart. other k y (λ is. apart (is ∙ sym next))) (λ y. rw next (here y))) refl

-- what they mean is changed so
pub each_mapped : {A B : Type 0} (m : A → B) (g : ℕ → A → A) (h : ℕ → B → B) (i : ℕ) (xs : List A) → ((k : ℕ) (x : A) → m (g k x) ≡ h k (m x)) → map m (each_changed g i xs) ≡ each_changed h i (map m xs)
each_mapped m g h i [] same = refl
each_mapped m g h i (x ∷ xs) same = rw (same i x, each_mapped m g h (suc i) xs same) refl
