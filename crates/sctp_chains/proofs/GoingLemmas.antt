-- Chains that are dropped, as they are in memory.
use Rattle.std.proofs.Common.{◌≡◌, ℕ, suc, ◌-◌, ◌<◌, ◌≤◌, List, [], length, get_or, set, take, drop, map, inl, inr, refl, sym, ◌∙◌, ap, subst, arith}
use Rattle.std.specs.List.{remove}
use Rattle.sctp_model.specs.numbers.Lists.{Has}
use Rattle.sctp_chains.specs.Cells.{Cell}
use Rattle.sctp_chains.specs.Links.{ChainKept, chain_of, cells_of, AreChains}
use Rattle.sctp_chains.specs.declared.chain.Chain.{Chain}
use Rattle.sctp_chains.specs.inner.LettingGo.{size_of_parts, is_outside, passing, IsCut, LetsGo, Removes, Trims}
use Rattle.sctp_chains.proofs.ListLemmas.{here_first, none_dropped, dropped_has, filter_none}
use Rattle.sctp_chains.proofs.MemoryLemmas.{at_kept, length_kept, set_kept, remove_kept}
use Rattle.sctp_chains.proofs.ChainLemmas.{chain_order, chain_ranks, cell_chain}
use Rattle.sctp_chains.proofs.DroppingLemmas.{inside, low_front, split_chains, takes_out}
use Rattle.sctp_chains.proofs.SearchLemmas.{not_lower, stands_in, front_or_back}
use Rattle.sctp_chains.proofs.TrimLemmas.{Drops, drops_more, drops_end, drops_front}

module _ (cs : List Chain) (k : ℕ) (x : Chain) (l : k < length cs) (at : x ≡ get_or cs k x) where
  within : k < length (map chain_of cs)
  within = let n = length_kept cs in omega (arith, l, n)

  here : chain_of x ≡ get_or (map chain_of cs) k (chain_of x)
  here = sym (at_kept cs k x l at (chain_of x))

  pub out_of : (new : List Chain) (held left : ℕ) → new ≡ remove cs k → left ≡ held - size_of_parts (chain_of x).parts →
      Removes k (map chain_of cs) (map chain_of new) held left (chain_of x)
  out_of new held left is less =
      subst (λ (n : ℕ). Removes k (map chain_of cs) (map chain_of new) held n (chain_of x)) (sym less)
      (subst (λ (ks : List ChainKept). Removes k (map chain_of cs) ks held (held - size_of_parts (chain_of x).parts) (chain_of x)) (sym (ap (map chain_of) is ∙ remove_kept cs k))
      (takes_out (map chain_of cs) k (chain_of x) within here held))

  pub one_more : (high : ℕ) (old : List ChainKept) (new : List Chain) (held left after : ℕ) → Drops high k old (map chain_of cs) held left → (chain_of x).last ≤ high → new ≡ remove cs k →
      after ≡ left - size_of_parts (chain_of x).parts → Drops high k old (map chain_of new) held after
  one_more high old new held left after d low is less =
      subst (λ (n : ℕ). Drops high k old (map chain_of new) held n) (sym less)
      (subst (λ (ks : List ChainKept). Drops high k old ks held (left - size_of_parts (chain_of x).parts)) (sym (ap (map chain_of) is ∙ remove_kept cs k))
      (drops_more high k old (map chain_of cs) held left d (chain_of x) within here low))

  pub front_more : (high : ℕ) (old : List ChainKept) (y : Chain) (held left after : ℕ) → Drops high k old (map chain_of cs) held left → (chain_of x).first ≤ high → high < (chain_of x).last →
      Trims high (chain_of x) (chain_of y) left after → LetsGo high k old (map chain_of (set cs k y)) held after
  front_more high old y held left after d low up trims h bound cut =
      let s = d h bound cut in
      let good = s.chains.each (chain_of x) (dropped_has (map chain_of cs) k (chain_of x) (stands_in (map chain_of cs) s.chains k (chain_of x) within here)) in
      let t = trims good low up in
      (subst (λ (n : ℕ). LetsGo high k old (map chain_of (set cs k y)) held n) (sym t.1)
      (subst (λ (ks : List ChainKept). LetsGo high k old ks held (left - size_of_parts (take (suc (high - (chain_of x).first)) (chain_of x).parts))) (sym (set_kept cs k y ∙ ap (set (map chain_of cs) k) t.0))
      (drops_front high k old (map chain_of cs) held left d (chain_of x) within here low up))) h bound cut

  pub none_more : (high : ℕ) (old : List ChainKept) (held left : ℕ) → Drops high k old (map chain_of cs) held left → high < (chain_of x).first → LetsGo high k old (map chain_of cs) held left
  none_more high old held left d past = drops_end high k old (map chain_of cs) held left d (λ c h there.
      let low = not_lower (map chain_of cs) h k (chain_of x) within here c there in omega (arith, low, past))

pub none_left : (cs : List Chain) (k high : ℕ) (old : List ChainKept) (held left : ℕ) → length cs ≤ k → Drops high k old (map chain_of cs) held left → LetsGo high k old (map chain_of cs) held left
none_left cs k high old held left past d = drops_end high k old (map chain_of cs) held left d (λ c h there.
    absurd (none_dropped (map chain_of cs) k c (let n = length_kept cs in omega (arith, past, n)) there))

-- ---- where none lies there

nothing_yet : (high k : ℕ) (old : List ChainKept) (held : ℕ) → Drops high k old old held held
nothing_yet high k old held = λ h low cut. record { chains = h; cut = cut; cells = refl; count = λ is. is }

pub none_there : (cs : List Chain) (k high held : ℕ) → length cs ≤ k → LetsGo high k (map chain_of cs) (map chain_of cs) held held
none_there cs k high held past = none_left cs k high (map chain_of cs) held held past (nothing_yet high k (map chain_of cs) held)

pub none_so_low : (cs : List Chain) (k high held : ℕ) (x : Chain) → k < length cs → x ≡ get_or cs k x → high < (chain_of x).first → LetsGo high k (map chain_of cs) (map chain_of cs) held held
none_so_low cs k high held x l at past = none_more cs k x l at high (map chain_of cs) held held (nothing_yet high k (map chain_of cs) held) past

-- ---- where all go

module _ (cs : List ChainKept) (h : AreChains cs) (n high : ℕ) (x : ChainKept) (last : suc n ≡ length cs) (at : x ≡ get_or cs n x) (low : x.last ≤ high) where
  here_last : n < length cs
  here_last = omega (arith, last)

  ends_low : (c : ChainKept) → Has cs c → c.last ≤ high
  ends_low c there = elim (front_or_back cs h n c there) [
    | inl a ↦
        let below = low_front (take n cs) (drop (suc n) cs) x (split_chains cs n x here_last at h) c a in
        let order = chain_order x (h.each x (dropped_has cs n x (stands_in cs h n x here_last at))) in omega (arith, below, order, low)
    | inr b ↦ elim (subst (λ (xs : List ChainKept). Has xs c) (here_first cs n x here_last at) b) [
      | inl is ↦ let e = ap (λ (z : ChainKept). z.last) is in omega (arith, e, low)
      | inr d ↦ absurd (none_dropped cs (suc n) c (omega (arith, last)) d)
    ]
  ]

  none_stays : (bound : ℕ) → IsCut bound cs 0 → passing (is_outside bound high) (cells_of cs) ≡ []
  none_stays bound cut = filter_none (λ (x : Cell). is_outside bound high x.rank) (cells_of cs) (λ y there.
      let m = cell_chain cs y there in
      let ranks = chain_ranks m.0 (h.each m.0 m.1) y m.2 in
      let above = cut.back m.0 m.1 in
      let below = ends_low m.0 m.1 in
      inside bound high y.rank (let r = ranks.0 in omega (arith, above, r)) (let r = ranks.1 in omega (arith, below, r)))

no_chains : AreChains []
no_chains = record { each = λ c there. absurd there; rising = tt; parted = λ c d there other. absurd there }

pub all_gone : (cs new : List Chain) (n k high held : ℕ) (x : Chain) → suc n ≡ length cs → x ≡ get_or cs n x → (chain_of x).last ≤ high → k ≡ 0 → new ≡ [] →
    LetsGo high k (map chain_of cs) (map chain_of new) held 0
all_gone cs new n k high held x last at low first none =
    subst (λ (j : ℕ). LetsGo high j (map chain_of cs) (map chain_of new) held 0) (sym first)
    (subst (λ (xs : List Chain). LetsGo high 0 (map chain_of cs) (map chain_of xs) held 0) (sym none) (λ h bound cut.
    let long = length_kept cs in
    let here = sym (at_kept cs n x (omega (arith, last)) at (chain_of x)) in
    record { chains = no_chains; cells = sym (none_stays (map chain_of cs) h n high (chain_of x) (omega (arith, last, long)) here low bound cut); held = λ is. refl }))
