-- A fragment is filed among chains as they are in memory.
use Rattle.std.proofs.Common.{◌≡◌, ℕ, ◌<◌, ◌≤◌, true, List, ◌∷◌, ◌++◌, length, get_or, set, take, drop, map, Some, None, refl, sym, ◌∙◌, ap, subst, arith}
use Rattle.std.specs.List.{insert, remove}
use Rattle.sctp_model.specs.numbers.Lists.{Has}
use Rattle.sctp_chains.specs.Links.{ChainKept, chain_of, one_of, is_linked, join, IsChain, AreChains}
use Rattle.sctp_chains.specs.declared.chain.Chain.{Chain}
use Rattle.sctp_chains.specs.declared.chain.Part.{Part}
use Rattle.sctp_chains.specs.inner.Filing.{IsPlace, IsLinkBefore, IsLinkBehind, IsJoined, HaveMore, Gains}
use Rattle.sctp_chains.proofs.MemoryLemmas.{at_kept, length_kept, set_kept, insert_kept}
use Rattle.sctp_chains.proofs.ListLemmas.{at_same, has_at}
use Rattle.sctp_chains.proofs.FilingLemmas.{files_alone, files_back, files_front, files_both}

one_own : (p : Part) → IsChain (one_of p)
one_own p = record { some = omega arith; last = omega arith }

module _ (cs : List Chain) (k : ℕ) (p : Part) (le : k ≤ length cs) (place : AreChains (map chain_of cs) → IsPlace p.rank (map chain_of cs) k) where
  within : k ≤ length (map chain_of cs)
  within = let n = length_kept cs in omega (arith, le, n)

  here : (j : ℕ) (x : Chain) → j < length cs → x ≡ get_or cs j x → chain_of x ≡ get_or (map chain_of cs) j (chain_of x)
  here j x less at = sym (at_kept cs j x less at (chain_of x))

  good : AreChains (map chain_of cs) → (j : ℕ) (x : Chain) → j < length cs → x ≡ get_or cs j x → IsChain (chain_of x)
  good old j x less at = old.each (chain_of x) (subst (Has (map chain_of cs)) (at_kept cs j x less at (chain_of x))
      (has_at (map chain_of cs) j (chain_of x) (let n = length_kept cs in omega (arith, less, n))))

  pub filed_back : (j : ℕ) (x y : Chain) → j < length cs → x ≡ get_or cs j x →
      (IsChain (chain_of x) → is_linked (chain_of x) (one_of p) ≡ true → chain_of y ≡ join (chain_of x) (one_of p)) → IsLinkBefore (map chain_of cs) k (one_of p) (Some j) →
      IsLinkBehind (map chain_of cs) k (one_of p) None → Gains (one_of p) (map chain_of cs) (map chain_of (set cs j y))
  filed_back j x y less at is before behind old new =
      let joined = is (good old j x less at) (before.2 (chain_of x) (here j x less at)) in
      subst (HaveMore (one_of p) (map chain_of cs)) (sym (set_kept cs j y ∙ ap (set (map chain_of cs) j) joined))
      (files_back (map chain_of cs) k (one_of p) within (one_own p) refl place j (chain_of x) (here j x less at) before behind old new)

  pub filed_front : (j : ℕ) (x y : Chain) → j < length cs → x ≡ get_or cs j x →
      (IsChain (chain_of x) → is_linked (one_of p) (chain_of x) ≡ true → chain_of y ≡ join (one_of p) (chain_of x)) → IsLinkBefore (map chain_of cs) k (one_of p) None →
      IsLinkBehind (map chain_of cs) k (one_of p) (Some j) → Gains (one_of p) (map chain_of cs) (map chain_of (set cs j y))
  filed_front j x y less at is before behind old new =
      let joined = is (good old j x less at) (behind.2 (chain_of x) (here j x less at)) in
      subst (HaveMore (one_of p) (map chain_of cs)) (sym (set_kept cs j y ∙ ap (set (map chain_of cs) j) joined))
      (files_front (map chain_of cs) k (one_of p) within (one_own p) refl place j (chain_of x) (here j x less at) before behind old new)

  pub filed_alone : (x : Chain) → chain_of x ≡ one_of p → IsLinkBefore (map chain_of cs) k (one_of p) None → IsLinkBehind (map chain_of cs) k (one_of p) None →
      Gains (one_of p) (map chain_of cs) (map chain_of (insert cs k x))
  filed_alone x is before behind =
      subst (Gains (one_of p) (map chain_of cs)) (sym (insert_kept cs k x ∙ ap (λ (c : ChainKept). take k (map chain_of cs) ++ c ∷ drop k (map chain_of cs)) is))
      (files_alone (map chain_of cs) k (one_of p) within (one_own p) refl place before behind)

  pub filed_both : (i j : ℕ) (new : List Chain) → IsLinkBefore (map chain_of cs) k (one_of p) (Some i) → IsLinkBehind (map chain_of cs) k (one_of p) (Some j) →
      IsJoined (map chain_of cs) i (one_of p) j (map chain_of new) → Gains (one_of p) (map chain_of cs) (map chain_of new)
  filed_both i j new before behind joined old free =
      let kept = map chain_of cs in
      let c = get_or kept i (one_of p) in
      let d = get_or kept j (one_of p) in
      let at : c ≡ get_or kept i c = at_same kept i (one_of p) c before.1 in
      let also : d ≡ get_or kept j d = at_same kept j (one_of p) d behind.1 in
      let got = joined c d at also in
      let is = got.1.joined (old.each c (has_at kept i (one_of p) before.1)) (old.each d (has_at kept j (one_of p) behind.1)) (before.2 c at) (behind.2 d also) in
      subst (HaveMore (one_of p) kept) (sym (got.2 ∙ ap (λ (m : ChainKept). remove (set kept i m) j) is))
      (files_both kept k (one_of p) within (one_own p) refl place i j c d at also before behind old free)
