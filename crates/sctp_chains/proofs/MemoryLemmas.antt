-- Chains as they are in memory, and what they say.
use Rattle.std.proofs.Common.{◌≡◌, ℕ, zero, suc, ◌<◌, ◌≤◌, List, [], ◌∷◌, ◌++◌, length, get_or, set, take, drop, map, Result, Ok, Err, refl, sym, ◌∙◌, ap, arith}
use Rattle.std.specs.Prelude.{OnOk, OnErr}
use Rattle.std.specs.List.{insert, remove}
use Rattle.std.proofs.lemmas.List.{map-append}
use Rattle.sctp_chains.specs.Links.{ChainKept, chain_of}
use Rattle.sctp_chains.specs.declared.chain.Chain.{Chain}

pub on_ok : {A E : Type 0} (r : Result A E) (P Q : Type 0) → (P → Q) → OnOk r P → OnOk r Q
on_ok (Ok x) P Q f p = f p
on_ok (Err x) P Q f p = p

pub on_err : {A E : Type 0} (r : Result A E) (P Q : Type 0) → (P → Q) → OnErr r P → OnErr r Q
on_err (Ok x) P Q f p = p
on_err (Err x) P Q f p = f p

pub any_ok : {A E : Type 0} (r : Result A E) (P : Type 0) → P → OnOk r P
any_ok (Ok x) P p = p
any_ok (Err x) P p = tt

pub any_err : {A E : Type 0} (r : Result A E) (P : Type 0) → P → OnErr r P
any_err (Ok x) P p = tt
any_err (Err x) P p = p

-- ---- places

pub at_kept : (cs : List Chain) (i : ℕ) (x : Chain) → i < length cs → x ≡ get_or cs i x → (d : ChainKept) → get_or (map chain_of cs) i d ≡ chain_of x
at_kept [] i x less at d = absurd (omega (arith, less))
at_kept (c ∷ cs) zero x less at d = ap chain_of (sym at)
at_kept (c ∷ cs) (suc i) x less at d = at_kept cs i x (omega (arith, less)) at d

-- what is read at a place is what stands there
pub same_at : (cs : List Chain) (i j : ℕ) (x : Chain) (c : ChainKept) → i ≡ j → i < length cs → x ≡ get_or cs i x → c ≡ get_or (map chain_of cs) j c → chain_of x ≡ c
same_at cs i j x c is less at kept = sym (at_kept cs i x less at c) ∙ ap (λ (n : ℕ). get_or (map chain_of cs) n c) is ∙ sym kept

pub length_kept : (cs : List Chain) → length (map chain_of cs) ≡ length cs
length_kept [] = refl
length_kept (c ∷ cs) = ap suc (length_kept cs)

-- chains that say the same are as many
pub same_size : (cs ds : List Chain) → map chain_of cs ≡ map chain_of ds → length cs ≡ length ds
same_size cs ds same = sym (length_kept cs) ∙ ap (λ (ks : List ChainKept). length ks) same ∙ length_kept ds

-- ---- changes

pub take_kept : (cs : List Chain) (k : ℕ) → map chain_of (take k cs) ≡ take k (map chain_of cs)
take_kept cs zero = refl
take_kept [] (suc k) = refl
take_kept (c ∷ cs) (suc k) = ap (λ (xs : List ChainKept). chain_of c ∷ xs) (take_kept cs k)

pub drop_kept : (cs : List Chain) (k : ℕ) → map chain_of (drop k cs) ≡ drop k (map chain_of cs)
drop_kept cs zero = refl
drop_kept [] (suc k) = refl
drop_kept (c ∷ cs) (suc k) = drop_kept cs k

pub set_kept : (cs : List Chain) (i : ℕ) (x : Chain) → map chain_of (set cs i x) ≡ set (map chain_of cs) i (chain_of x)
set_kept [] i x = refl
set_kept (c ∷ cs) zero x = refl
set_kept (c ∷ cs) (suc i) x = ap (λ (xs : List ChainKept). chain_of c ∷ xs) (set_kept cs i x)

pub remove_kept : (cs : List Chain) (i : ℕ) → map chain_of (remove cs i) ≡ remove (map chain_of cs) i
remove_kept cs i = map-append chain_of (take i cs) (drop (suc i) cs) ∙ ap (λ (xs : List ChainKept). xs ++ map chain_of (drop (suc i) cs)) (take_kept cs i)
    ∙ ap (λ (xs : List ChainKept). take i (map chain_of cs) ++ xs) (drop_kept cs (suc i))

pub insert_kept : (cs : List Chain) (i : ℕ) (x : Chain) → map chain_of (insert cs i x) ≡ take i (map chain_of cs) ++ chain_of x ∷ drop i (map chain_of cs)
insert_kept cs i x = map-append chain_of (take i cs) (x ∷ drop i cs) ∙ ap (λ (xs : List ChainKept). xs ++ chain_of x ∷ map chain_of (drop i cs)) (take_kept cs i)
    ∙ ap (λ (xs : List ChainKept). take i (map chain_of cs) ++ chain_of x ∷ xs) (drop_kept cs i)

-- what stands there already
pub set_same : (cs : List Chain) (i : ℕ) (x y : Chain) → i < length cs → x ≡ get_or cs i x → chain_of y ≡ chain_of x → map chain_of (set cs i y) ≡ map chain_of cs
set_same [] i x y less at same = refl
set_same (c ∷ cs) zero x y less at same = ap (λ (z : ChainKept). z ∷ map chain_of cs) (same ∙ ap chain_of at)
set_same (c ∷ cs) (suc i) x y less at same = ap (λ (xs : List ChainKept). chain_of c ∷ xs) (set_same cs i x y (omega (arith, less)) at same)

-- ---- how many there are

pub as_long : (cs : List Chain) (i : ℕ) (x : Chain) → length (set cs i x) ≡ length cs
as_long [] i x = refl
as_long (c ∷ cs) zero x = refl
as_long (c ∷ cs) (suc i) x = ap suc (as_long cs i x)

pub one_longer : (cs : List Chain) (i : ℕ) (x : Chain) → i ≤ length cs → length (insert cs i x) ≡ suc (length cs)
one_longer cs zero x le = refl
one_longer [] (suc i) x le = absurd (omega (arith, le))
one_longer (c ∷ cs) (suc i) x le = ap suc (one_longer cs i x (omega (arith, le)))

pub one_shorter : (cs : List Chain) (i : ℕ) → i < length cs → suc (length (remove cs i)) ≡ length cs
one_shorter [] i less = absurd (omega (arith, less))
one_shorter (c ∷ cs) zero less = refl
one_shorter (c ∷ cs) (suc i) less = ap suc (one_shorter cs i (omega (arith, less)))

-- ---- a chain is taken out, and an earlier one changes

pub set_earlier : {X : Type 0} (cs : List X) (i j : ℕ) (z : X) → i < j → set (remove cs j) i z ≡ remove (set cs i z) j
set_earlier [] i j z order = nothing i j
  where
    nothing : (a b : ℕ) → set (remove [] b) a z ≡ remove [] b
    nothing a zero = refl
    nothing a (suc b) = refl
set_earlier (c ∷ cs) i zero z order = absurd (omega (arith, order))
set_earlier (c ∷ cs) zero (suc j) z order = refl
set_earlier (c ∷ cs) (suc i) (suc j) z order = ap (λ (xs : List _). c ∷ xs) (set_earlier cs i j z (omega (arith, order)))
