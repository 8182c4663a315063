-- Dropping fragments: a chain taken out, chains up to a rank, and the front of a chain.
use Rattle.std.proofs.Common.{◌≡◌, ℕ, zero, suc, ◌+◌, ◌-◌, ◌<◌, ◌≤◌, true, false, List, [], ◌∷◌, ◌++◌, length, get_or, take, drop, filter, inl, inr, refl, sym, ◌∙◌, ap, subst, arith}
use Rattle.std.specs.List.{remove}
use Rattle.std.proofs.lemmas.Bool.Decides.{nat_tests}
use Rattle.std.proofs.lemmas.Grind.{common_steps}
use Rattle.sctp_model.specs.numbers.Lists.{Has}
use Rattle.sctp_chains.specs.Cells.{Cell}
use Rattle.sctp_chains.specs.Links.{ChainKept, cells_in, cells_of, IsChain, IsBelow, AreChains}
use Rattle.sctp_chains.specs.inner.LettingGo.{size_of_cells, size_of_parts, is_outside, passing, Leaves, Removes}
use Rattle.sctp_chains.proofs.ListLemmas.{in_part, in_midst, around, take_removed, drop_removed, at_same, filter_parts, filter_all, filter_none, order_back, order_across}
use Rattle.sctp_chains.proofs.SameLemmas.{total_parts}
use Rattle.sctp_chains.proofs.CellLemmas.{cells_size}
use Rattle.sctp_chains.proofs.ChainLemmas.{chain_order, chain_ranks, cells_parts, cell_chain, left_out}

pub outside_low : (low high r : ℕ) → r < low → is_outside low high r ≡ true
outside_low low high r less = grind (arith, less, nat_tests, common_steps)

pub outside_high : (low high r : ℕ) → high < r → is_outside low high r ≡ true
outside_high low high r less = grind (arith, less, nat_tests, common_steps)

pub inside : (low high r : ℕ) → low ≤ r → r ≤ high → is_outside low high r ≡ false
inside low high r above below = grind (arith, above, below, nat_tests, common_steps)

-- ---- bytes

pub size_parts : (cs ds : List ChainKept) → size_of_cells (cells_of (cs ++ ds)) ≡ size_of_cells (cells_of cs) + size_of_cells (cells_of ds)
size_parts cs ds = ap size_of_cells (cells_parts cs ds) ∙ total_parts (λ (x : Cell). length x.bytes) (cells_of cs) (cells_of ds)

pub chain_size : (c : ChainKept) (cs : List ChainKept) → size_of_cells (cells_of (c ∷ cs)) ≡ size_of_parts c.parts + size_of_cells (cells_of cs)
chain_size c cs = total_parts (λ (x : Cell). length x.bytes) (cells_in c) (cells_of cs) ∙ ap (λ (n : ℕ). n + size_of_cells (cells_of cs)) (cells_size c.first c.head c.ends c.parts)

-- one chain less
pub size_less : (front back : List ChainKept) (c : ChainKept) → size_of_cells (cells_of (front ++ c ∷ back)) - size_of_parts c.parts ≡ size_of_cells (cells_of (front ++ back))
size_less front back c = let a = size_parts front (c ∷ back) in let b = chain_size c back in let d = size_parts front back in omega (arith, a, b, d)

pub size_cut : (ps : List (List ℕ)) (k : ℕ) → size_of_parts ps ≡ size_of_parts (take k ps) + size_of_parts (drop k ps)
size_cut ps zero = omega arith
size_cut [] (suc k) = refl
size_cut (p ∷ ps) (suc k) = let more = size_cut ps k in omega (arith, more)

-- ---- one chain of a list

module _ (front back : List ChainKept) (c : ChainKept) (h : AreChains (front ++ c ∷ back)) where
  pub own : IsChain c
  own = h.each c (in_midst front back c)

  pub low_front : (x : ChainKept) → Has front x → x.last < c.first
  low_front x there = order_across IsBelow front (c ∷ back) h.rising x c there (inl refl)

  pub high_back : (x : ChainKept) → Has back x → c.last < x.first
  high_back x there = (order_back IsBelow front (c ∷ back) h.rising).0 x there

  pub rest_chains : AreChains (front ++ back)
  rest_chains = left_out front (c ∷ []) back c h

  -- those of the others pass a test that leaves out these ranks, or fewer
  others_pass : (low high : ℕ) → c.first ≤ low → high ≤ c.last → passing (is_outside low high) (cells_of (front ++ back)) ≡ cells_of (front ++ back)
  others_pass low high above below = filter_all (λ (x : Cell). is_outside low high x.rank) (cells_of (front ++ back)) (λ x there.
      let m = cell_chain (front ++ back) x there in
      let ranks = chain_ranks m.0 (rest_chains.each m.0 m.1) x m.2 in
      elim (in_part front back m.0 m.1) [
        | inl a ↦ let l = low_front m.0 a in let r = ranks.1 in outside_low low high x.rank (omega (arith, l, r, above))
        | inr b ↦ let l = high_back m.0 b in let r = ranks.0 in outside_high low high x.rank (omega (arith, l, r, below))
      ])

  -- its own pass none that leaves out all its ranks
  pub own_gone : (low high : ℕ) → low ≤ c.first → c.last ≤ high → passing (is_outside low high) (cells_of (front ++ c ∷ back)) ≡ passing (is_outside low high) (cells_of (front ++ back))
  own_gone low high above below =
      let test = λ (x : Cell). is_outside low high x.rank in
      ap (filter test) (cells_parts front (c ∷ back)) ∙ filter_parts test (cells_of front) (cells_of (c ∷ back))
      ∙ ap (λ (xs : List Cell). filter test (cells_of front) ++ xs) (filter_parts test (cells_in c) (cells_of back)
      ∙ ap (λ (xs : List Cell). xs ++ filter test (cells_of back)) (filter_none test (cells_in c) (λ x there.
      let ranks = chain_ranks c own x there in let a = ranks.0 in let b = ranks.1 in inside low high x.rank (omega (arith, above, a)) (omega (arith, below, b)))))
      ∙ sym (filter_parts test (cells_of front) (cells_of back)) ∙ ap (filter test) (sym (cells_parts front back))

  -- taken out
  pub taken_leaves : (held : ℕ) → Leaves (is_outside c.first c.last) (front ++ c ∷ back) (front ++ back) held (held - size_of_parts c.parts)
  taken_leaves held = record {
    chains = rest_chains;
    cells = sym (own_gone c.first c.last (omega arith) (omega arith) ∙ others_pass c.first c.last (omega arith) (omega arith));
    held = λ is. ap (λ (n : ℕ). n - size_of_parts c.parts) is ∙ size_less front back c;
  }

-- ---- the chain at a place

module _ (cs : List ChainKept) (k : ℕ) (x : ChainKept) (less : k < length cs) (at : x ≡ get_or cs k x) where
  pub split : take k cs ++ x ∷ drop (suc k) cs ≡ cs
  split = around cs k x less at

  pub split_chains : AreChains cs → AreChains (take k cs ++ x ∷ drop (suc k) cs)
  split_chains h = subst AreChains (sym split) h

  pub takes_out : (held : ℕ) → Removes k cs (remove cs k) held (held - size_of_parts x.parts) x
  takes_out held = record {
    here = λ d l. at_same cs k d x less ∙ sym at;
    leaves = λ h l. subst (λ (xs : List ChainKept). Leaves (is_outside x.first x.last) xs (remove cs k) held (held - size_of_parts x.parts)) split
        (taken_leaves (take k cs) (drop (suc k) cs) x (split_chains h) held);
    rest = λ h l. record {
      front = λ c there. low_front (take k cs) (drop (suc k) cs) x (split_chains h) c (subst (λ (xs : List ChainKept). Has xs c) (take_removed cs k less) there);
      back = λ c there.
          let high = high_back (take k cs) (drop (suc k) cs) x (split_chains h) c (subst (λ (xs : List ChainKept). Has xs c) (drop_removed cs k less) there) in
          let order = chain_order x (own (take k cs) (drop (suc k) cs) x (split_chains h)) in
          omega (arith, high, order);
    };
  }
