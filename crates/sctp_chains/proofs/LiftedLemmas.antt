-- A chain is taken out, with another in its position until it is put back; of two, the later one may be dropped for good.
use Rattle.std.proofs.Common.{◌≡◌, ℕ, zero, suc, ◌<◌, ◌≤◌, List, [], ◌∷◌, length, get_or, set, map, refl, sym, ◌∙◌, ap, subst, arith}
use Rattle.std.specs.List.{remove}
use Rattle.sctp_chains.specs.Links.{ChainKept, chain_of, one_of, one_if_whole}
use Rattle.sctp_chains.specs.declared.chain.Chain.{Chain}
use Rattle.sctp_chains.specs.declared.chain.Part.{Part}
use Rattle.sctp_chains.specs.inner.Filing.{IsOneOf, IsJoined, IsWholeOfJoined}
use Rattle.sctp_chains.proofs.MemoryLemmas.{same_at, set_same, set_kept, remove_kept, as_long, one_shorter, set_earlier}

-- ---- places of a list

pub set_again : {X : Type 0} (xs : List X) (i : ℕ) (b y : X) → set (set xs i b) i y ≡ set xs i y
set_again [] i b y = refl
set_again (x ∷ xs) zero b y = refl
set_again (x ∷ xs) (suc i) b y = ap (λ (ys : List _). x ∷ ys) (set_again xs i b y)

set_apart : {X : Type 0} (xs : List X) (i j : ℕ) (y b : X) → i < j → set (set xs j b) i y ≡ set (set xs i y) j b
set_apart [] i j y b order = refl
set_apart (x ∷ xs) i zero y b order = absurd (omega (arith, order))
set_apart (x ∷ xs) zero (suc j) y b order = refl
set_apart (x ∷ xs) (suc i) (suc j) y b order = ap (λ (ys : List _). x ∷ ys) (set_apart xs i j y b (omega (arith, order)))

at_earlier : {X : Type 0} (xs : List X) (i j : ℕ) (b d : X) → i < j → get_or (set xs j b) i d ≡ get_or xs i d
at_earlier [] i j b d order = refl
at_earlier (x ∷ xs) i zero b d order = absurd (omega (arith, order))
at_earlier (x ∷ xs) zero (suc j) b d order = refl
at_earlier (x ∷ xs) (suc i) (suc j) b d order = at_earlier xs i j b d (omega (arith, order))

at_later : {X : Type 0} (xs : List X) (i j : ℕ) (y d : X) → i < j → get_or (set xs i y) j d ≡ get_or xs j d
at_later [] i j y d order = refl
at_later (x ∷ xs) i zero y d order = absurd (omega (arith, order))
at_later (x ∷ xs) zero (suc j) y d order = refl
at_later (x ∷ xs) (suc i) (suc j) y d order = at_later xs i j y d (omega (arith, order))

removed_again : {X : Type 0} (xs : List X) (j : ℕ) (b : X) → remove (set xs j b) j ≡ remove xs j
removed_again [] j b = refl
removed_again (x ∷ xs) zero b = refl
removed_again (x ∷ xs) (suc j) b = ap (λ (ys : List _). x ∷ ys) (removed_again xs j b)

-- ---- one chain

-- a chain is put back, whatever became of it
pub put_back : (cs : List Chain) (i : ℕ) (b y : Chain) (mid new : List Chain) → mid ≡ set cs i b → new ≡ set mid i y → new ≡ set cs i y
put_back cs i b y mid new lifted back = back ∙ ap (λ (xs : List Chain). set xs i y) lifted ∙ set_again cs i b y

-- ---- two chains

module _ (cs one two : List Chain) (i j : ℕ) (b d low high low2 high2 : Chain) (order : i < j) (less : j < length cs) (first : high ≡ get_or cs j high) (lifted : one ≡ set cs j b)
    (second : low ≡ get_or one i low) (both : two ≡ set one i d) (low_same : chain_of low2 ≡ chain_of low) (high_same : chain_of high2 ≡ chain_of high) where
  low_at : low ≡ get_or cs i low
  low_at = second ∙ ap (λ (xs : List Chain). get_or xs i low) lifted ∙ at_earlier cs i j b low order

  -- both are put back as they were
  pub both_back : (mid new : List Chain) → mid ≡ set two i low2 → new ≡ set mid j high2 → map chain_of new ≡ map chain_of cs
  both_back mid new back last =
      ap (map chain_of) all
      ∙ set_same (set cs i low2) j high high2 (let n = as_long cs i low2 in omega (arith, less, n)) (first ∙ sym (at_later cs i j low2 high order)) high_same
      ∙ set_same cs i low low2 (omega (arith, order, less)) low_at low_same
    where
      all : new ≡ set (set cs i low2) j high2
      all = last ∙ ap (λ (xs : List Chain). set xs j high2) (back ∙ ap (λ (xs : List Chain). set xs i low2) (both ∙ ap (λ (xs : List Chain). set xs i d) lifted) ∙ set_again (set cs j b) i d low2 ∙ set_apart cs i j low2 b order)
          ∙ set_again (set cs i low2) j b high2

  -- the one behind goes, and what became of the other is put back
  pub one_back : (mid new : List Chain) (z : Chain) → mid ≡ remove two j → new ≡ set mid i z → new ≡ remove (set cs i z) j
  one_back mid new z gone last =
      last ∙ ap (λ (xs : List Chain). set xs i z) gone ∙ set_earlier two i j z order
      ∙ ap (λ (xs : List Chain). remove xs j) (ap (λ (xs : List Chain). set xs i z) (both ∙ ap (λ (xs : List Chain). set xs i d) lifted) ∙ set_again (set cs j b) i d z ∙ set_apart cs i j z b order)
      ∙ removed_again (set cs i z) j b

  -- what one chain of two is
  joined_is : (z : Chain) (p : Part) → IsOneOf (chain_of low2) (one_of p) (chain_of high2) (chain_of z) →
      (c e : ChainKept) → c ≡ get_or (map chain_of cs) i c → e ≡ get_or (map chain_of cs) j e → IsOneOf c (one_of p) e (chain_of z)
  joined_is z p is c e here there =
      subst (λ (v : ChainKept). IsOneOf v (one_of p) e (chain_of z)) (low_same ∙ same_at cs i i low c refl (omega (arith, order, less)) low_at here)
      (subst (λ (v : ChainKept). IsOneOf (chain_of low2) (one_of p) v (chain_of z)) (high_same ∙ same_at cs j j high e refl less first there) is)

  pub joined_back : (mid new : List Chain) (z : Chain) (p : Part) → mid ≡ remove two j → new ≡ set mid i z → IsOneOf (chain_of low2) (one_of p) (chain_of high2) (chain_of z) →
      IsJoined (map chain_of cs) i (one_of p) j (map chain_of new)
  joined_back mid new z p gone last is c e here there = (
    chain_of z,
    joined_is z p is c e here there,
    ap (map chain_of) (one_back mid new z gone last) ∙ remove_kept (set cs i z) j ∙ ap (λ (xs : List ChainKept). remove xs j) (set_kept cs i z),
  )

  pub joined_whole : (z : Chain) (p : Part) (n : ℕ) → IsOneOf (chain_of low2) (one_of p) (chain_of high2) (chain_of z) → n ≡ one_if_whole (chain_of z) →
      IsWholeOfJoined (map chain_of cs) i (one_of p) j n
  joined_whole z p n is counts c e here there = counts ∙ (joined_is z p is c e here there).whole

  pub joined_few : (mid new : List Chain) (z : Chain) → mid ≡ remove two j → new ≡ set mid i z → length new ≤ suc (length cs)
  joined_few mid new z gone last =
      let is = ap length (one_back mid new z gone last) in
      let one = one_shorter (set cs i z) j (let n = as_long cs i z in omega (arith, less, n)) in
      let n = as_long cs i z in
      omega (arith, is, one, n)
