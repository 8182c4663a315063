-- Tables of a function: read, changed at one number, one number longer.
use Rattle.std.proofs.Common.{◌≡◌, ℕ, zero, suc, ◌+◌, ◌<◌, ◌≤◌, List, [], ◌∷◌, ◌++◌, length, get_or, set, refl, ap, arith}
use Rattle.std.specs.Prelude.{replicate}
use Rattle.sctp_send.specs.SenderStands.{table}

pub length-table : {A : Type 0} (f : ℕ → A) (i n : ℕ) → length (table f i n) ≡ n
length-table f i zero = refl
length-table f i (suc n) = ap suc (length-table f (suc i) n)

pub get_or-table : {A : Type 0} (f : ℕ → A) (i n k : ℕ) (d : A) → k < n → get_or (table f i n) k d ≡ f (i + k)
get_or-table f i zero k d lt = absurd (omega arith)
get_or-table f i (suc n) zero d lt = let same : i + 0 ≡ i = omega arith in rw same refl
get_or-table f i (suc n) (suc k) d lt = let same : suc i + k ≡ i + suc k = omega arith in rw (← same) (get_or-table f (suc i) n k d (omega arith))

-- functions that agree have one table
pub table-same : {A : Type 0} (f g : ℕ → A) (i n : ℕ) → ((k : ℕ) → i ≤ k → k < i + n → f k ≡ g k) → table f i n ≡ table g i n
table-same f g i zero same = refl
table-same f g i (suc n) same = rw (same i (omega arith) (omega arith), table-same f g (suc i) n (λ k lo hi. same k (omega arith) (omega arith))) refl

-- functions that agree but at one number
pub table-set : {A : Type 0} (f g : ℕ → A) (i n k : ℕ) → k < n → ((j : ℕ) → i ≤ j → j < i + n → (j ≡ i + k → ⊥) → g j ≡ f j) → table g i n ≡ set (table f i n) k (g (i + k))
table-set f g i zero k lt same = absurd (omega arith)
table-set f g i (suc n) zero lt same =
    let here : i + 0 ≡ i = omega arith in
    rw (here, table-same g f (suc i) n (λ j lo hi. same j (omega arith) (omega arith) (λ e. omega arith))) refl
table-set f g i (suc n) (suc k) lt same =
    let here : suc i + k ≡ i + suc k = omega arith in
    rw (same i (omega arith) (omega arith) (λ e. omega arith), ← here)
    (ap (λ (xs : List _). f i ∷ xs) (table-set f g (suc i) n k (omega arith) (λ j lo hi ne. same j (omega arith) (omega arith) (λ e. ne (omega arith)))))

-- one number more
pub table-push : {A : Type 0} (f : ℕ → A) (i n : ℕ) → table f i (suc n) ≡ table f i n ++ f (i + n) ∷ []
table-push f i zero = let same : i + 0 ≡ i = omega arith in rw same refl
table-push f i (suc n) = let same : suc i + n ≡ i + suc n = omega arith in rw (← same) (ap (λ (xs : List _). f i ∷ xs) (table-push f (suc i) n))

-- a table of one value
pub table-replicate : {A : Type 0} (x : A) (i n : ℕ) → table (λ k. x) i n ≡ replicate n x
table-replicate x i zero = refl
table-replicate x i (suc n) = ap (λ (xs : List _). x ∷ xs) (table-replicate x (suc i) n)
