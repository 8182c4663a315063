-- What continues the last chain is after all of them.
use Rattle.std.proofs.Common.{◌≡◌, ℕ, zero, suc, ◌<◌, true, List, [], ◌∷◌, length, get_or, inl, inr, sym, ◌∙◌, ap, subst, arith}
use Rattle.sctp_model.specs.numbers.Lists.{Has, AreInOrder}
use Rattle.sctp_chains.specs.Links.{ChainKept, is_linked, IsChain, IsBelow, AreChains}
use Rattle.sctp_chains.specs.inner.Filing.{IsPlace}
use Rattle.sctp_chains.proofs.ListLemmas.{has_at, taken_has, none_dropped}
use Rattle.sctp_chains.proofs.ChainLemmas.{chain_order, linked_says}

last_low : (cs : List ChainKept) (j : ℕ) (c : ChainKept) (r : ℕ) → AreInOrder IsBelow cs → ((d : ChainKept) → Has cs d → IsChain d) → suc j ≡ length cs → c ≡ get_or cs j c → c.last < r →
    (d : ChainKept) → Has cs d → d.last < r
last_low [] j c r order each n at less d there = absurd there
last_low (x ∷ []) zero c r order each n at less d there = elim there [
  | inl is ↦ let same = ap (λ (z : ChainKept). z.last) is in let last = ap (λ (z : ChainKept). z.last) at in omega (arith, same, last, less)
  | inr none ↦ absurd none
]
last_low (x ∷ []) (suc j) c r order each n at less d there = absurd (omega (arith, n))
last_low (x ∷ y ∷ ys) zero c r order each n at less d there = absurd (omega (arith, n))
last_low (x ∷ y ∷ ys) (suc j) c r order each n at less d there =
    let has : Has (y ∷ ys) c = subst (Has (y ∷ ys)) (sym at) (has_at (y ∷ ys) j c (omega (arith, n))) in
    elim there [
      | inl is ↦
          let low = order.0 c has in
          let own = chain_order c (each c (inr has)) in
          let same = ap (λ (z : ChainKept). z.last) is in
          omega (arith, low, own, same, less)
      | inr later ↦ last_low (y ∷ ys) j c r order.1 (λ e in_rest. each e (inr in_rest)) (omega (arith, n)) at less d later
    ]

pub behind_last : (cs : List ChainKept) (k j : ℕ) (c a : ChainKept) → AreChains cs → k ≡ length cs → suc j ≡ k → c ≡ get_or cs j c → is_linked c a ≡ true → IsPlace a.first cs k
behind_last cs k j c a h all last at linked =
    let next = (linked_says c a linked).0 in
    record {
      front = λ d there. last_low cs j c a.first h.rising h.each (last ∙ all) at (omega (arith, next)) d (taken_has cs k d there);
      back = λ d there. absurd (none_dropped cs k d (omega (arith, all)) there);
    }
