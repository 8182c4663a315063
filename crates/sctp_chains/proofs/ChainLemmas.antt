-- Chains in their order: what they hold, and how one takes the place of others.
use Rattle.std.proofs.Common.{◌==◌, ◌≡◌, ℕ, suc, ◌+◌, ◌-◌, ◌<◌, ◌≤◌, ◌⊎◌, Bool, true, false, List, [], ◌∷◌, ◌++◌, map, length, Option, Some, None, inl, inr, refl, sym, ◌∙◌, ap, subst, arith}
use Rattle.std.proofs.lemmas.Bool.Decides.{nat_tests}
use Rattle.std.proofs.lemmas.List.{map-append, length-append}
use Rattle.std.proofs.lemmas.Bool.{and_parts}
use Rattle.std.specs.Prelude.{◌&&◌, not, is_some}
use Rattle.sctp_model.specs.numbers.Lists.{Has, AreInOrder, joined}
use Rattle.sctp_chains.specs.Cells.{Cell}
use Rattle.sctp_chains.specs.Links.{ChainKept, cells_from, cells_in, cells_of, is_linked, join, IsChain, IsBelow, AreChains}
use Rattle.sctp_chains.specs.declared.chain.Head.{Head}
use Rattle.sctp_chains.proofs.ListLemmas.{in_front, in_back, in_part, order_front, order_back, order_across, order_join, either_order, joined_parts}
use Rattle.sctp_chains.proofs.CellLemmas.{cell_ranks, one_cell, cells_join}

-- ---- what they hold

pub chain_ranks : (c : ChainKept) → IsChain c → (x : Cell) → Has (cells_in c) x → (c.first ≤ x.rank) × (x.rank ≤ c.last)
chain_ranks c h x there = let ranks = cell_ranks c.first c.head c.ends c.parts x there in let last = h.last in (ranks.0, let high = ranks.1 in omega (arith, last, high))

pub chain_order : (c : ChainKept) → IsChain c → c.first ≤ c.last
chain_order c h = let last = h.last in let some = h.some in omega (arith, last, some)

pub cells_parts : (cs ds : List ChainKept) → cells_of (cs ++ ds) ≡ cells_of cs ++ cells_of ds
cells_parts cs ds = ap joined (map-append cells_in cs ds) ∙ joined_parts (map cells_in cs) (map cells_in ds)

pub cell_chain : (cs : List ChainKept) (x : Cell) → Has (cells_of cs) x → (c : ChainKept) × Has cs c × Has (cells_in c) x
cell_chain [] x there = absurd there
cell_chain (c ∷ cs) x there = elim (in_part (cells_in c) (cells_of cs) x there) [
  | inl here ↦ (c, inl refl, here)
  | inr later ↦ let m = cell_chain cs x later in (m.0, inr m.1, m.2)
]

pub chain_cell : (cs : List ChainKept) (c : ChainKept) (x : Cell) → Has cs c → Has (cells_in c) x → Has (cells_of cs) x
chain_cell [] c x there here = absurd there
chain_cell (d ∷ cs) c x (inl is) here = in_front (cells_in d) (cells_of cs) x (subst (λ (e : ChainKept). Has (cells_in e) x) (sym is) here)
chain_cell (d ∷ cs) c x (inr there) here = in_back (cells_in d) (cells_of cs) x (chain_cell cs c x there here)

-- chains with a rank in common are one
pub one_chain : (cs : List ChainKept) → AreChains cs → (c d : ChainKept) → Has cs c → Has cs d → (r : ℕ) → c.first ≤ r → r ≤ c.last → d.first ≤ r → r ≤ d.last → c ≡ d
one_chain cs h c d here there r low high also too = elim (either_order IsBelow cs h.rising c d here there) [
  | inl is ↦ is
  | inr other ↦ elim other [ inl below ↦ absurd (omega (arith, high, also, below)) | inr above ↦ absurd (omega (arith, low, too, above)) ]
]

-- each rank has one fragment
pub one_rank : (cs : List ChainKept) → AreChains cs → (x y : Cell) → Has (cells_of cs) x → Has (cells_of cs) y → x.rank ≡ y.rank → x ≡ y
one_rank cs h x y here there same =
    let c = cell_chain cs x here in
    let d = cell_chain cs y there in
    let a = chain_ranks c.0 (h.each c.0 c.1) x c.2 in
    let b = chain_ranks d.0 (h.each d.0 d.1) y d.2 in
    let is : c.0 ≡ d.0 = one_chain cs h c.0 d.0 c.1 d.1 x.rank a.0 a.1 (let low = b.0 in omega (arith, low, same)) (let high = b.1 in omega (arith, high, same)) in
    one_cell d.0.first d.0.head d.0.ends d.0.parts x y (subst (λ (e : ChainKept). Has (cells_in e) x) is c.2) d.2 same

-- ---- links

linked_plain : (n : ℕ) (e : Bool) (h : Option Head) → ((n == 1) && (not e && not (is_some h))) ≡ true → (n ≡ 1) × (e ≡ false) × (h ≡ None)
linked_plain n e h linked =
    let first = and_parts (n == 1) (not e && not (is_some h)) linked in
    let second = and_parts (not e) (not (is_some h)) first.1 in
    (grind (arith, first.0, nat_tests), no e second.0, none h second.1)
  where
    no : (b : Bool) → not b ≡ true → b ≡ false
    no true e = absurd (cc)
    no false e = refl

    none : (o : Option Head) → not (is_some o) ≡ true → o ≡ None
    none None e = refl
    none (Some g) e = absurd (cc)

pub linked_says : (c d : ChainKept) → is_linked c d ≡ true → (d.first ≡ suc c.last) × (c.ends ≡ false) × (d.head ≡ None)
linked_says c d linked = let m = linked_plain (d.first - c.last) c.ends d.head linked in let n = m.0 in (omega (arith, n), m.1, m.2)

pub far_apart : (c d : ChainKept) → (d.first ≡ suc c.last → ⊥) → is_linked c d ≡ false
far_apart c d far = let no : (d.first - c.last == 1) ≡ false = grind (arith, far, nat_tests) in rw no refl

-- ---- two linked chains in one

pub joined_chain : (c d : ChainKept) → IsChain c → IsChain d → is_linked c d ≡ true → IsChain (join c d)
joined_chain c d h k linked = record {
  some = let n = length-append c.parts d.parts in let some = h.some in omega (arith, n, some);
  last = let n = length-append c.parts d.parts in let last = h.last in let more = k.last in let next = (linked_says c d linked).0 in omega (arith, n, last, more, next);
}

joined_plain : (r s : ℕ) (h g : Option Head) (e k : Bool) (ps qs : List (List ℕ)) → 0 < length ps → 0 < length qs → s ≡ r + length ps → e ≡ false → g ≡ None →
    cells_from r h k (ps ++ qs) ≡ cells_from r h e ps ++ cells_from s g k qs
joined_plain r s h g e k [] qs some more at inside none = absurd (omega (arith, some))
joined_plain r s h g e k (p ∷ ps) [] some more at inside none = absurd (omega (arith, more))
joined_plain r s h g e k (p ∷ ps) (q ∷ qs) some more at inside none = rw (inside, none) (cells_join r h k p ps q qs s at)

pub joined_cells : (c d : ChainKept) → IsChain c → IsChain d → is_linked c d ≡ true → cells_in (join c d) ≡ cells_in c ++ cells_in d
joined_cells c d h k linked =
    let says = linked_says c d linked in
    let at : d.first ≡ c.first + length c.parts = let next = says.0 in let last = h.last in omega (arith, next, last) in
    joined_plain c.first d.first c.head d.head c.ends d.ends c.parts d.parts h.some k.some at says.1 says.2

-- ---- one chain in place of others

module _ (front mid back : List ChainKept) (m : ChainKept) (old : AreChains (front ++ (mid ++ back))) where
  in_old : (c : ChainKept) → Has (front ++ back) c → Has (front ++ (mid ++ back)) c
  in_old c there = elim (in_part front back c there) [
    | inl a ↦ in_front front (mid ++ back) c a
    | inr b ↦ in_back front (mid ++ back) c (in_back mid back c b)
  ]

  rest : AreInOrder IsBelow back
  rest = order_back IsBelow mid back (order_back IsBelow front (mid ++ back) old.rising)

  -- none in their place
  pub left_out : AreChains (front ++ back)
  left_out = record {
    each = λ c there. old.each c (in_old c there);
    rising = order_join IsBelow front back (order_front IsBelow front (mid ++ back) old.rising) rest
        (λ x y here there. order_across IsBelow front (mid ++ back) old.rising x y here (in_back mid back y there));
    parted = λ c d here there. old.parted c d (in_old c here) (in_old d there);
  }

  -- another one, which none is linked to
  pub replaced : IsChain m → ((c : ChainKept) → Has front c → c.last < m.first) → ((c : ChainKept) → Has back c → m.last < c.first) →
      ((c : ChainKept) → Has (front ++ back) c → (is_linked c m ≡ false) × (is_linked m c ≡ false)) → AreChains (front ++ m ∷ back)
  replaced own before behind none = record {
    each = λ c there. elim (split c there) [ inl is ↦ subst IsChain is own | inr other ↦ left_out.each c other ];
    rising = order_join IsBelow front (m ∷ back) (order_front IsBelow front (mid ++ back) old.rising) (behind, rest) (λ x y here there. elim there [
      | inl is ↦ subst (IsBelow x) is (before x here)
      | inr later ↦ order_across IsBelow front (mid ++ back) old.rising x y here (in_back mid back y later)
    ]);
    parted = λ c d here there. elim (split c here) [
      | inl is ↦ elim (split d there) [
        | inl also ↦ far_apart c d (λ e. let a = chain_order m own in let p = ap (λ (z : ChainKept). z.last) is in let q = ap (λ (z : ChainKept). z.first) also in omega (arith, a, p, q, e))
        | inr other ↦ subst (λ (z : ChainKept). is_linked z d ≡ false) is (none d other).1
      ]
      | inr first ↦ elim (split d there) [
        | inl also ↦ subst (λ (z : ChainKept). is_linked c z ≡ false) also (none c first).0
        | inr other ↦ left_out.parted c d first other
      ]
    ];
  }
    where
      split : (c : ChainKept) → Has (front ++ m ∷ back) c → (m ≡ c) ⊎ Has (front ++ back) c
      split c there = elim (in_part front (m ∷ back) c there) [
        | inl a ↦ inr (in_front front back c a)
        | inr b ↦ elim b [ inl is ↦ inl is | inr later ↦ inr (in_back front back c later) ]
      ]
