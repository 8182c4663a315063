-- From a position on, chains are dropped up to a rank: one after another, and then the front of one.
use Rattle.std.proofs.Common.{false, ◌≡◌, ℕ, suc, ◌-◌, ◌<◌, ◌≤◌, List, [], ◌∷◌, ◌++◌, length, get_or, set, take, drop, filter, inl, inr, sym, ◌∙◌, ap, subst, arith}
use Rattle.std.specs.List.{remove}
use Rattle.std.proofs.lemmas.List.{set_split, length-drop}
use Rattle.sctp_model.specs.numbers.Lists.{Has}
use Rattle.sctp_chains.specs.Cells.{Cell}
use Rattle.sctp_chains.specs.Links.{ChainKept, cells_in, cells_of, is_linked, IsChain, AreChains}
use Rattle.sctp_chains.specs.inner.LettingGo.{size_of_cells, size_of_parts, is_outside, passing, Leaves, IsCut, LetsGo, trimmed}
use Rattle.sctp_chains.proofs.ListLemmas.{in_midst, in_front, in_back, in_part, in_around, here_first, take_removed, drop_removed, filter_parts, filter_all}
use Rattle.sctp_chains.proofs.CellLemmas.{cells_behind}
use Rattle.sctp_chains.proofs.ChainLemmas.{chain_order, chain_ranks, cells_parts, cell_chain, far_apart, replaced}
use Rattle.sctp_chains.proofs.DroppingLemmas.{outside_low, outside_high, size_parts, chain_size, size_less, size_cut, own, low_front, high_back, rest_chains, own_gone, split, split_chains}
use Rattle.sctp_chains.proofs.SearchLemmas.{front_or_back, stands_in}

-- What has gone so far had ranks within the bounds, and what is left of these is at the place and behind it.
pub record IsDropped (low high k : ℕ) (old new : List ChainKept) (held left : ℕ) : Type 0 where
  pub chains : AreChains new
  pub cut : IsCut low new k
  pub cells : passing (is_outside low high) (cells_of new) ≡ passing (is_outside low high) (cells_of old)
  pub count : held ≡ size_of_cells (cells_of old) → left ≡ size_of_cells (cells_of new)

abbrev pub Drops : (high k : ℕ) → (old new : List ChainKept) → (held left : ℕ) → Type 0
Drops high k old new held left = AreChains old → (low : ℕ) → IsCut low old k → IsDropped low high k old new held left

module _ (high k : ℕ) (old new : List ChainKept) (held left : ℕ) (d : Drops high k old new held left) where
  -- one chain more
  pub drops_more : (x : ChainKept) → k < length new → x ≡ get_or new k x → x.last ≤ high → Drops high k old (remove new k) held (left - size_of_parts x.parts)
  drops_more x less at below h low cut =
      let s = d h low cut in
      let parts = split_chains new k x less at s.chains in
      let is = split new k x less at in
      let above = s.cut.back x (stands_in new s.chains k x less at) in
      record {
        chains = rest_chains (take k new) (drop (suc k) new) x parts;
        cut = record {
          front = λ c there. s.cut.front c (subst (λ (xs : List ChainKept). Has xs c) (take_removed new k less) there);
          back = λ c there. s.cut.back c (subst (λ (xs : List ChainKept). Has xs c) (sym (here_first new k x less at)) (inr (subst (λ (xs : List ChainKept). Has xs c) (drop_removed new k less) there)));
        };
        cells = sym (own_gone (take k new) (drop (suc k) new) x parts low high above below) ∙ ap (λ (xs : List ChainKept). passing (is_outside low high) (cells_of xs)) is ∙ s.cells;
        count = λ held_is. ap (λ (n : ℕ). n - size_of_parts x.parts) (s.count held_is ∙ ap (λ (xs : List ChainKept). size_of_cells (cells_of xs)) (sym is)) ∙ size_less (take k new) (drop (suc k) new) x;
      }

  -- nothing more goes
  pub drops_end : ((c : ChainKept) → AreChains new → Has (drop k new) c → high < c.first) → LetsGo high k old new held left
  drops_end past h low cut =
      let s = d h low cut in
      record {
        chains = s.chains;
        cells = sym (filter_all (λ (x : Cell). is_outside low high x.rank) (cells_of new) (λ x there.
            let m = cell_chain new x there in
            let ranks = chain_ranks m.0 (s.chains.each m.0 m.1) x m.2 in
            elim (front_or_back new s.chains k m.0 m.1) [
              | inl a ↦ let l = s.cut.front m.0 a in let r = ranks.1 in outside_low low high x.rank (omega (arith, l, r))
              | inr b ↦ let l = past m.0 s.chains b in let r = ranks.0 in outside_high low high x.rank (omega (arith, l, r))
            ])) ∙ s.cells;
        held = s.count;
      }

  -- the front of one chain more
  pub drops_front : (x : ChainKept) → k < length new → x ≡ get_or new k x → x.first ≤ high → high < x.last →
      LetsGo high k old (set new k (trimmed high x)) held (left - size_of_parts (take (suc (high - x.first)) x.parts))
  drops_front x less at low_end high_end h low cut = subst (λ (xs : List ChainKept). Leaves (is_outside low high) old xs held (left - size_of_parts (take (suc (high - x.first)) x.parts)))
      (sym (set_split new k (trimmed high x) less)) (record {
        chains = replaced front (x ∷ []) back (trimmed high x) parts whole before behind none;
        cells = cells ∙ ap (λ (xs : List ChainKept). passing (is_outside low high) (cells_of xs)) is ∙ s.cells;
        held = λ held_is.
            let total = s.count held_is ∙ ap (λ (xs : List ChainKept). size_of_cells (cells_of xs)) (sym is) in
            let a = size_parts front (x ∷ back) in let b = chain_size x back in let c = size_cut x.parts (suc (high - x.first)) in
            let e = size_parts front (trimmed high x ∷ back) in let f = chain_size (trimmed high x) back in
            omega (arith, total, a, b, c, e, f);
      })
    where
      s : IsDropped low high k old new held left
      s = d h low cut

      front : List ChainKept
      front = take k new

      back : List ChainKept
      back = drop (suc k) new

      is : front ++ x ∷ back ≡ new
      is = split new k x less at

      parts : AreChains (front ++ x ∷ back)
      parts = split_chains new k x less at s.chains

      good : IsChain x
      good = own front back x parts

      above : low ≤ x.first
      above = s.cut.back x (stands_in new s.chains k x less at)

      whole : IsChain (trimmed high x)
      whole = let n = length-drop (suc (high - x.first)) x.parts in let last = good.last in let l = low_end in let e = high_end in
          record { some = omega (arith, n, last, l, e); last = omega (arith, n, last, l, e) }

      before : (c : ChainKept) → Has front c → c.last < suc high
      before c there = let l = low_front front back x parts c there in let e = low_end in omega (arith, l, e)

      behind : (c : ChainKept) → Has back c → x.last < c.first
      behind c there = high_back front back x parts c there

      none : (c : ChainKept) → Has (front ++ back) c → (is_linked c (trimmed high x) ≡ false) × (is_linked (trimmed high x) c ≡ false)
      none c there = (
        far_apart c (trimmed high x) (λ e. elim (in_part front back c there) [
          | inl a ↦ let l = low_front front back x parts c a in let i = low_end in omega (arith, l, i, e)
          | inr b ↦ let l = behind c b in let i = high_end in let o = chain_order c (parts.each c (in_around front back x c there)) in omega (arith, l, i, e, o)
        ]),
        parts.parted x c (in_midst front back x) (in_around front back x c there),
      )

      cells : cells_of (front ++ trimmed high x ∷ back) ≡ passing (is_outside low high) (cells_of (front ++ x ∷ back))
      cells =
          let test = λ (y : Cell). is_outside low high y.rank in
          cells_parts front (trimmed high x ∷ back)
          ∙ ap (λ (xs : List Cell). xs ++ cells_of (trimmed high x ∷ back)) (sym (filter_all test (cells_of front) (λ y there.
          let m = cell_chain front y there in
          let ranks = chain_ranks m.0 (parts.each m.0 (in_front front (x ∷ back) m.0 m.1)) y m.2 in
          let l = s.cut.front m.0 m.1 in let r = ranks.1 in outside_low low high y.rank (omega (arith, l, r)))))
          ∙ ap (λ (xs : List Cell). filter test (cells_of front) ++ xs) (
          ap (λ (xs : List Cell). xs ++ cells_of back) (sym (let last = good.last in let e = high_end in cells_behind low high x.first x.head x.ends x.parts above low_end (omega (arith, last, e))))
          ∙ ap (λ (xs : List Cell). filter test (cells_in x) ++ xs) (sym (filter_all test (cells_of back) (λ y there.
          let m = cell_chain back y there in
          let ranks = chain_ranks m.0 (parts.each m.0 (in_back front (x ∷ back) m.0 (inr m.1))) y m.2 in
          let l = behind m.0 m.1 in let r = ranks.0 in let e = high_end in outside_high low high y.rank (omega (arith, l, r, e)))))
          ∙ sym (filter_parts test (cells_in x) (cells_of back)))
          ∙ sym (filter_parts test (cells_of front) (cells_of (x ∷ back))) ∙ ap (filter test) (sym (cells_parts front (x ∷ back)))
