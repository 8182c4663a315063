-- The chains at the front that are known not to be complete, when chains are added, changed and removed.
use Rattle.std.proofs.Common.{◌≡◌, ℕ, zero, suc, ◌-◌, ◌<◌, ◌≤◌, true, false, List, [], ◌∷◌, length, get_or, set, take, map, inl, inr, refl, sym, ◌∙◌, ap, subst, arith}
use Rattle.std.specs.List.{insert, remove}
use Rattle.std.proofs.lemmas.Bool.{cases_Bool, cases_lt}
use Rattle.sctp_model.specs.numbers.Lists.{Has}
use Rattle.std.proofs.lemmas.List.{length-set}
use Rattle.sctp_chains.specs.Links.{ChainKept, chain_of, one_of, is_whole, one_if_whole}
use Rattle.sctp_chains.specs.declared.chain.Chain.{Chain}
use Rattle.sctp_chains.specs.declared.chain.Part.{Part}
use Rattle.sctp_chains.specs.inner.Filing.{IsOneOf, IsJoined, IsWholeOfJoined, StaysOpen}
use Rattle.sctp_chains.specs.inner.Finding.{AreOpen}
use Rattle.sctp_chains.proofs.ListLemmas.{at_same}
use Rattle.sctp_chains.proofs.MemoryLemmas.{at_kept, length_kept, set_kept, insert_kept, remove_kept}

-- ---- a number of them

pub taken_more : (j k : ℕ) (cs : List ChainKept) (c : ChainKept) → j ≤ k → Has (take j cs) c → Has (take k cs) c
taken_more zero k cs c le there = absurd there
taken_more (suc j) zero cs c le there = absurd (omega (arith, le))
taken_more (suc j) (suc k) [] c le there = absurd there
taken_more (suc j) (suc k) (x ∷ cs) c le (inl is) = inl is
taken_more (suc j) (suc k) (x ∷ cs) c le (inr later) = inr (taken_more j k cs c (omega (arith, le)) later)

pub open_less : (j k : ℕ) (cs : List ChainKept) → AreOpen k cs → j ≤ k → AreOpen j cs
open_less j k cs h le = λ c there. h c (taken_more j k cs c le there)

pub open_none : (cs : List ChainKept) → AreOpen 0 cs
open_none cs = λ c there. absurd there

pub taken_at : (cs : List ChainKept) (i k : ℕ) (x : ChainKept) → i < length cs → i < k → x ≡ get_or cs i x → Has (take k cs) x
taken_at [] i k x less early at = absurd (omega (arith, less))
taken_at (c ∷ cs) i zero x less early at = absurd (omega (arith, early))
taken_at (c ∷ cs) zero (suc k) x less early at = inl (sym at)
taken_at (c ∷ cs) (suc i) (suc k) x less early at = inr (taken_at cs i k x (omega (arith, less)) (omega (arith, early)) at)

-- ---- one changes, comes or goes

pub open_set : (k i : ℕ) (cs : List ChainKept) (y : ChainKept) → AreOpen k cs → (i < k → is_whole y ≡ false) → AreOpen k (set cs i y)
open_set zero i cs y h e = λ c there. absurd there
open_set (suc k) i [] y h e = λ c there. absurd there
open_set (suc k) zero (x ∷ cs) y h e = λ c there. elim there [
  | inl is ↦ subst (λ (z : ChainKept). is_whole z ≡ false) is (e (omega arith))
  | inr later ↦ h c (inr later)
]
open_set (suc k) (suc i) (x ∷ cs) y h e = λ c there. elim there [
  | inl is ↦ h c (inl is)
  | inr later ↦ open_set k i cs y (λ d m. h d (inr m)) (λ less. e (omega (arith, less))) c later
]

pub open_insert : (k i : ℕ) (cs : List ChainKept) (y : ChainKept) → i ≤ length cs → AreOpen k cs → (i < k → is_whole y ≡ false) → AreOpen k (insert cs i y)
open_insert zero i cs y le h e = λ c there. absurd there
open_insert (suc k) zero cs y le h e = λ c there. elim there [
  | inl is ↦ subst (λ (z : ChainKept). is_whole z ≡ false) is (e (omega arith))
  | inr later ↦ h c (taken_more k (suc k) cs c (omega arith) later)
]
open_insert (suc k) (suc i) [] y le h e = absurd (omega (arith, le))
open_insert (suc k) (suc i) (x ∷ cs) y le h e = λ c there. elim there [
  | inl is ↦ h c (inl is)
  | inr later ↦ open_insert k i cs y (omega (arith, le)) (λ d m. h d (inr m)) (λ less. e (omega (arith, less))) c later
]

pub open_remove : (k i : ℕ) (cs : List ChainKept) → AreOpen (suc k) cs → AreOpen k (remove cs i)
open_remove zero i cs h = λ c there. absurd there
open_remove (suc k) zero [] h = λ c there. absurd there
open_remove (suc k) (suc i) [] h = λ c there. absurd there
open_remove (suc k) zero (x ∷ cs) h = λ c there. h c (inr there)
open_remove (suc k) (suc i) (x ∷ cs) h = λ c there. elim there [
  | inl is ↦ h c (inl is)
  | inr later ↦ open_remove k i cs (λ d m. h d (inr m)) c later
]

-- one that goes takes one of them at most
pub open_removed : (k j i : ℕ) (cs : List ChainKept) → AreOpen k cs → j ≤ k - 1 → AreOpen j (remove cs i)
open_removed k zero i cs h le = open_none (remove cs i)
open_removed k (suc j) i cs h le = open_remove (suc j) i cs (open_less (suc (suc j)) k cs h (omega (arith, le)))

-- one behind them takes none
open_before : (k i : ℕ) (cs : List ChainKept) → k ≤ i → AreOpen k cs → AreOpen k (remove cs i)
open_before zero i cs le h = λ c there. absurd there
open_before (suc k) zero cs le h = absurd (omega (arith, le))
open_before (suc k) (suc i) [] le h = λ c there. absurd there
open_before (suc k) (suc i) (x ∷ cs) le h = λ c there. elim there [
  | inl is ↦ h c (inl is)
  | inr later ↦ open_before k i cs (omega (arith, le)) (λ d m. h d (inr m)) c later
]

-- ---- a fragment filed

-- counted as no whole one, it is none
not_counted : (y : ChainKept) (n : ℕ) → n ≡ one_if_whole y → n ≤ 0 → is_whole y ≡ false
not_counted y n is none = elim (cases_Bool (is_whole y)) [
  | inl so ↦ absurd (let one : one_if_whole y ≡ 1 = rw so refl in omega (arith, one, is, none))
  | inr other ↦ other
]

-- nor is it before a place at or behind its own
behind_it : (y : ChainKept) (n i j : ℕ) → n ≡ one_if_whole y → (0 < n → j ≤ i) → i < j → is_whole y ≡ false
behind_it y n i j is low less = elim (cases_lt 0 n) [
  | inl so ↦ absurd (let l = low so in omega (arith, l, less))
  | inr none ↦ not_counted y n is (omega (arith, none))
]

pub stays_set : (cs : List ChainKept) (i : ℕ) (y : ChainKept) (n : ℕ) → n ≡ one_if_whole y → StaysOpen cs (set cs i y) i n
stays_set cs i y n is = λ k j h le low. open_set j i cs y (open_less j k cs h (omega (arith, le))) (behind_it y n i j is low)

pub stays_insert : (cs : List ChainKept) (i : ℕ) (y : ChainKept) (n : ℕ) → i ≤ length cs → n ≡ one_if_whole y → StaysOpen cs (insert cs i y) i n
stays_insert cs i y n within is = λ k j h le low. open_insert j i cs y within (open_less j k cs h (omega (arith, le))) (behind_it y n i j is low)

-- one of two chains goes
pub stays_both : (cs new : List ChainKept) (i r : ℕ) (y : ChainKept) (n : ℕ) → i < r → suc (length new) ≡ length cs → new ≡ remove (set cs i y) r → n ≡ one_if_whole y → StaysOpen cs new i n
stays_both cs new i r y n order size made is = λ k j h le low. subst (AreOpen j) (sym made) (elim (cases_lt 0 n) [
  | inl so ↦ open_before j r (set cs i y) (let l = low so in omega (arith, l, order)) (open_set j i cs y (open_less j k cs h (omega (arith, le))) (behind_it y n i j is low))
  | inr none ↦ open_removed k j r (set cs i y) (open_set k i cs y h (λ less. not_counted y n is (omega (arith, none)))) (omega (arith, le, size))
])

-- ---- the same, as chains lie in memory

pub kept_set : (cs : List Chain) (i : ℕ) (y : Chain) (n : ℕ) → n ≡ one_if_whole (chain_of y) → StaysOpen (map chain_of cs) (map chain_of (set cs i y)) i n
kept_set cs i y n is = subst (λ (ks : List ChainKept). StaysOpen (map chain_of cs) ks i n) (sym (set_kept cs i y)) (stays_set (map chain_of cs) i (chain_of y) n is)

pub kept_insert : (cs new : List Chain) (i : ℕ) (x : Chain) (n : ℕ) → i ≤ length cs → new ≡ insert cs i x → n ≡ one_if_whole (chain_of x) → StaysOpen (map chain_of cs) (map chain_of new) i n
kept_insert cs new i x n le made is =
    subst (λ (ks : List ChainKept). StaysOpen (map chain_of cs) ks i n) (sym (ap (map chain_of) made ∙ insert_kept cs i x))
    (stays_insert (map chain_of cs) i (chain_of x) n (let size = length_kept cs in omega (arith, le, size)) is)

one_fewer : (cs : List ChainKept) (r : ℕ) → r < length cs → suc (length (remove cs r)) ≡ length cs
one_fewer [] r less = absurd (omega (arith, less))
one_fewer (c ∷ cs) zero less = refl
one_fewer (c ∷ cs) (suc r) less = ap suc (one_fewer cs r (omega (arith, less)))

pub kept_both : (cs new : List Chain) (i r : ℕ) (p : Part) (n : ℕ) → i < r → r < length (map chain_of cs) →
    IsJoined (map chain_of cs) i (one_of p) r (map chain_of new) → IsWholeOfJoined (map chain_of cs) i (one_of p) r n → StaysOpen (map chain_of cs) (map chain_of new) i n
kept_both cs new i r p n order high joined whole = stays_both old (map chain_of new) i r y n order size made (whole c d c_at d_at ∙ sym got.1.whole)
  where
    old : List ChainKept
    old = map chain_of cs

    c : ChainKept
    c = get_or old i (one_of p)

    d : ChainKept
    d = get_or old r (one_of p)

    c_at : c ≡ get_or old i c
    c_at = at_same old i (one_of p) c (let o = order in let h = high in omega (arith, o, h))

    d_at : d ≡ get_or old r d
    d_at = at_same old r (one_of p) d high

    got : (m : ChainKept) × IsOneOf c (one_of p) d m × (map chain_of new ≡ remove (set old i m) r)
    got = joined c d c_at d_at

    y : ChainKept
    y = got.0

    made : map chain_of new ≡ remove (set old i y) r
    made = got.2

    size : suc (length (map chain_of new)) ≡ length old
    size = ap (λ (ks : List ChainKept). suc (length ks)) made ∙ one_fewer (set old i y) r (let same = length-set old i y in let h = high in omega (arith, same, h)) ∙ length-set old i y

pub kept_removed : (cs new : List Chain) (i k : ℕ) → new ≡ remove cs i → AreOpen k (map chain_of cs) → AreOpen (k - 1) (map chain_of new)
kept_removed cs new i k made h = subst (AreOpen (k - 1)) (sym (ap (map chain_of) made ∙ remove_kept cs i)) (open_removed k (k - 1) i (map chain_of cs) h (omega arith))

-- a chain that is whole only where it was one
pub kept_cut : (cs : List Chain) (i k : ℕ) (x y : Chain) → i < length cs → x ≡ get_or cs i x → one_if_whole (chain_of y) ≤ one_if_whole (chain_of x) → AreOpen k (map chain_of cs) →
    AreOpen k (map chain_of (set cs i y))
kept_cut cs i k x y less at low h = subst (AreOpen k) (sym (set_kept cs i y)) (open_set k i (map chain_of cs) (chain_of y) h (λ early.
    let x_at : chain_of x ≡ get_or (map chain_of cs) i (chain_of x) = sym (at_kept cs i x less at (chain_of x)) in
    let was = h (chain_of x) (taken_at (map chain_of cs) i k (chain_of x) (let n = length_kept cs in omega (arith, less, n)) early x_at) in
    not_counted (chain_of y) (one_if_whole (chain_of y)) refl (let none : one_if_whole (chain_of x) ≡ 0 = rw was refl in omega (arith, none, low))))

-- ---- one chain, as its count tells

pub no_one : (c : ChainKept) (n : ℕ) → n ≡ one_if_whole c → (n ≡ 1 → ⊥) → is_whole c ≡ false
no_one c n is not = elim (cases_Bool (is_whole c)) [
  | inl so ↦ absurd (not (is ∙ rw so refl))
  | inr other ↦ other
]

pub some_one : (c : ChainKept) (n : ℕ) → n ≡ one_if_whole c → n ≡ 1 → is_whole c ≡ true
some_one c n is one = elim (cases_Bool (is_whole c)) [
  | inl so ↦ so
  | inr other ↦ absurd (let none : one_if_whole c ≡ 0 = rw other refl in omega (arith, is, one, none))
]
