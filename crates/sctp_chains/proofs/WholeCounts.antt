-- How many chains are complete messages, when chains are added, changed and removed.
use Rattle.std.proofs.Common.{◌≡◌, ℕ, zero, suc, ◌+◌, ◌<◌, ◌≤◌, true, false, List, [], ◌∷◌, length, get_or, set, map, inl, inr, refl, sym, ◌∙◌, ap, arith, Some}
use Rattle.std.specs.Prelude.{is_some}
use Rattle.std.specs.List.{insert, remove}
use Rattle.std.proofs.lemmas.Bool.{cases_Bool}
use Rattle.std.proofs.lemmas.Grind.{common_steps}
use Rattle.sctp_model.specs.numbers.Lists.{Has}
use Rattle.sctp_chains.specs.Same.{total}
use Rattle.sctp_chains.specs.Links.{ChainKept, chain_of, one_of, is_linked, is_whole, one_if_whole, whole_in}
use Rattle.sctp_chains.specs.declared.chain.Chain.{Chain}
use Rattle.sctp_chains.specs.declared.chain.Head.{Head}
use Rattle.sctp_chains.specs.declared.chain.Part.{Part}
use Rattle.sctp_chains.specs.inner.Filing.{IsJoined, IsWholeOfJoined}
use Rattle.sctp_chains.proofs.ListLemmas.{at_same}
use Rattle.sctp_chains.proofs.MemoryLemmas.{at_kept}
use Rattle.sctp_chains.proofs.SameLemmas.{total_map}

-- ---- weights

module _ {A : Type 0} (w : A → ℕ) where
  weight_set : (xs : List A) (i : ℕ) (x y : A) → i < length xs → x ≡ get_or xs i x → total w (set xs i y) + w x ≡ total w xs + w y
  weight_set [] i x y less at = absurd (omega (arith, less))
  weight_set (z ∷ zs) zero x y less at = let same : w x ≡ w z = ap w at in omega (arith, same)
  weight_set (z ∷ zs) (suc i) x y less at = let more = weight_set zs i x y (omega (arith, less)) at in omega (arith, more)

  weight_remove : (xs : List A) (i : ℕ) (x : A) → i < length xs → x ≡ get_or xs i x → total w (remove xs i) + w x ≡ total w xs
  weight_remove [] i x less at = absurd (omega (arith, less))
  weight_remove (z ∷ zs) zero x less at = let same : w x ≡ w z = ap w at in omega (arith, same)
  weight_remove (z ∷ zs) (suc i) x less at = let more = weight_remove zs i x (omega (arith, less)) at in omega (arith, more)

  weight_insert : (xs : List A) (i : ℕ) (x : A) → total w (insert xs i x) ≡ total w xs + w x
  weight_insert [] zero x = omega arith
  weight_insert [] (suc i) x = omega arith
  weight_insert (z ∷ zs) zero x = omega arith
  weight_insert (z ∷ zs) (suc i) x = let more = weight_insert zs i x in omega (arith, more)

  weight_less : (xs : List A) (i : ℕ) → total w (remove xs i) ≤ total w xs
  weight_less [] zero = omega arith
  weight_less [] (suc i) = omega arith
  weight_less (z ∷ zs) zero = omega arith
  weight_less (z ∷ zs) (suc i) = let more = weight_less zs i in omega (arith, more)

-- ---- chains as they lie in memory

pub whole_set : (cs : List Chain) (i : ℕ) (x y : Chain) → i < length cs → x ≡ get_or cs i x → whole_in (map chain_of (set cs i y)) + one_if_whole (chain_of x) ≡ whole_in (map chain_of cs) + one_if_whole (chain_of y)
whole_set cs i x y less at =
    let new = total_map chain_of one_if_whole (set cs i y) in
    let old = total_map chain_of one_if_whole cs in
    let step = weight_set (λ (c : Chain). one_if_whole (chain_of c)) cs i x y less at in
    omega (arith, new, old, step)

pub whole_remove : (cs : List Chain) (i : ℕ) (x : Chain) → i < length cs → x ≡ get_or cs i x → whole_in (map chain_of (remove cs i)) + one_if_whole (chain_of x) ≡ whole_in (map chain_of cs)
whole_remove cs i x less at =
    let new = total_map chain_of one_if_whole (remove cs i) in
    let old = total_map chain_of one_if_whole cs in
    let step = weight_remove (λ (c : Chain). one_if_whole (chain_of c)) cs i x less at in
    omega (arith, new, old, step)

pub whole_insert : (cs : List Chain) (i : ℕ) (x : Chain) → whole_in (map chain_of (insert cs i x)) ≡ whole_in (map chain_of cs) + one_if_whole (chain_of x)
whole_insert cs i x =
    let new = total_map chain_of one_if_whole (insert cs i x) in
    let old = total_map chain_of one_if_whole cs in
    let step = weight_insert (λ (c : Chain). one_if_whole (chain_of c)) cs i x in
    omega (arith, new, old, step)

-- ---- one chain

pub one_of_none : (c : ChainKept) → is_whole c ≡ false → one_if_whole c ≡ 0
one_of_none c e = rw e refl

-- a chain counts once at the most
pub once : (c : ChainKept) (n : ℕ) → n ≡ one_if_whole c → n ≤ 1
once c n is = elim (cases_Bool (is_whole c)) [
  | inl so ↦ let one : one_if_whole c ≡ 1 = rw so refl in omega (arith, is, one)
  | inr other ↦ let none = one_of_none c other in omega (arith, is, none)
]

-- one that ends a message, and begins one, counts
pub ends_and_begins : (c : ChainKept) (h : Head) → c.ends ≡ true → c.head ≡ Some h → one_if_whole c ≡ 1
ends_and_begins c h ends head = rw (ends, head) refl

pub linked_open : (c d : ChainKept) → is_linked c d ≡ true → is_whole c ≡ false
linked_open c d e = elim (cases_Bool c.ends) [
  | inl is_so ↦ absurd (let t = rw is_so at e in grind (arith, t, common_steps))
  | inr other ↦ rw other refl
]

pub linked_on : (c d : ChainKept) → is_linked c d ≡ true → is_whole d ≡ false
linked_on c d e = elim (cases_Bool (is_some d.head)) [
  | inl is_so ↦ absurd (let t = rw is_so at e in grind (arith, t, common_steps))
  | inr other ↦ grind (arith, other, common_steps)
]

-- ---- what is counted

pub none_whole : (cs : List ChainKept) → whole_in cs ≤ 0 → (c : ChainKept) → Has cs c → is_whole c ≡ false
none_whole [] none c there = absurd there
none_whole (x ∷ cs) none c (inl is) = elim (cases_Bool (is_whole c)) [
  | inl is_so ↦ absurd (let same : one_if_whole x ≡ 1 = ap one_if_whole is ∙ rw is_so refl in omega (arith, none, same))
  | inr other ↦ other
]
none_whole (x ∷ cs) none c (inr there) = none_whole cs (omega (arith, none)) c there

-- no more than there are
pub whole_few : (cs : List ChainKept) → whole_in cs ≤ length cs
whole_few [] = omega arith
whole_few (c ∷ cs) = let rest = whole_few cs in elim (cases_Bool (is_whole c)) [
  | inl is_so ↦ rw is_so (omega (arith, rest))
  | inr other ↦ rw other (omega (arith, rest))
]

-- ---- a fragment filed

module _ (cs : List Chain) (p : Part) (x y : Chain) (n : ℕ) (j : ℕ) (less : j < length cs) (at : x ≡ get_or cs j x) (is : n ≡ one_if_whole (chain_of y)) where
  pub counted_back : ((c : ChainKept) → c ≡ get_or (map chain_of cs) j c → is_linked c (one_of p) ≡ true) → whole_in (map chain_of (set cs j y)) ≤ whole_in (map chain_of cs) + n
  counted_back linked =
      let here = linked (chain_of x) (sym (at_kept cs j x less at (chain_of x))) in
      let none = one_of_none (chain_of x) (linked_open (chain_of x) (one_of p) here) in
      let step = whole_set cs j x y less at in
      omega (arith, none, step, is)

  pub counted_front : ((c : ChainKept) → c ≡ get_or (map chain_of cs) j c → is_linked (one_of p) c ≡ true) → whole_in (map chain_of (set cs j y)) ≤ whole_in (map chain_of cs) + n
  counted_front linked =
      let here = linked (chain_of x) (sym (at_kept cs j x less at (chain_of x))) in
      let none = one_of_none (chain_of x) (linked_on (one_of p) (chain_of x) here) in
      let step = whole_set cs j x y less at in
      omega (arith, none, step, is)

pub counted_alone : (cs new : List Chain) (k : ℕ) (x : Chain) (n : ℕ) → new ≡ insert cs k x → n ≡ one_if_whole (chain_of x) → whole_in (map chain_of new) ≤ whole_in (map chain_of cs) + n
counted_alone cs new k x n made is = let step = whole_insert cs k x in let same = ap (λ (xs : List Chain). whole_in (map chain_of xs)) made in omega (arith, step, same, is)

-- two chains with the fragment between them
pub counted_both : (cs new : List Chain) (i j : ℕ) (p : Part) (n : ℕ) → i < length (map chain_of cs) → j < length (map chain_of cs) →
    ((c : ChainKept) → c ≡ get_or (map chain_of cs) i c → is_linked c (one_of p) ≡ true) → IsJoined (map chain_of cs) i (one_of p) j (map chain_of new) →
    IsWholeOfJoined (map chain_of cs) i (one_of p) j n → whole_in (map chain_of new) ≤ whole_in (map chain_of cs) + n
counted_both cs new i j p n low high linked joined whole =
    let old = map chain_of cs in
    let a = one_of p in
    let c = get_or old i a in
    let d = get_or old j a in
    let c_at = at_same old i a c low in
    let d_at = at_same old j a d high in
    let got = joined c d c_at d_at in
    let none = one_of_none c (linked_open c a (linked c c_at)) in
    let step = weight_set one_if_whole old i c got.0 low c_at in
    let fewer = weight_less one_if_whole (set old i got.0) j in
    let same = ap whole_in got.2 in
    let is = whole c d c_at d_at ∙ sym got.1.whole in
    omega (arith, none, step, fewer, same, is)
