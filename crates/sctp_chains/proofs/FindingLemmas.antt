-- Searches among chains: places, and whole messages.
use Rattle.std.proofs.Common.{◌≡◌, ℕ, ◌<◌, ◌≤◌, true, false, nat_lt, List, [], ◌∷◌, length, take, drop, map, inl, inr, refl, sym, ap, subst, arith}
use Rattle.std.specs.List.Sorted.{IsPartitionPoint, IsPartitionedBy}
use Rattle.std.proofs.lemmas.Bool.Decides.{nat_tests}
use Rattle.sctp_model.specs.numbers.Lists.{Has, AreInOrder}
use Rattle.sctp_chains.specs.Links.{ChainKept, chain_of, IsChain, IsBelow, AreChains}
use Rattle.sctp_chains.specs.declared.chain.Chain.{Chain}
use Rattle.sctp_chains.specs.inner.Filing.{IsPlace}
use Rattle.sctp_chains.specs.inner.Finding.{IsStart}
use Rattle.sctp_chains.proofs.ListLemmas.{parted, placed, has_map, map_has}
use Rattle.sctp_chains.proofs.MemoryLemmas.{take_kept, drop_kept}
use Rattle.sctp_chains.proofs.ChainLemmas.{chain_order}

-- ---- places

-- chains as they lie in memory are in order, too
memory_order : (cs : List Chain) → AreInOrder IsBelow (map chain_of cs) → AreInOrder (λ (x y : Chain). (chain_of x).last < (chain_of y).first) cs
memory_order [] order = tt
memory_order (c ∷ cs) order = (λ y there. order.0 (chain_of y) (has_map chain_of cs y there), memory_order cs order.1)

memory_each : (cs : List Chain) → ((c : ChainKept) → Has (map chain_of cs) c → IsChain c) → (x : Chain) → Has cs x → (chain_of x).first ≤ (chain_of x).last
memory_each cs each x there = chain_order (chain_of x) (each (chain_of x) (has_map chain_of cs x there))

-- each chain is one, and they lie in order
memory_both : (cs : List Chain) → AreInOrder (λ (x y : Chain). (chain_of x).last < (chain_of y).first) cs → ((x : Chain) → Has cs x → (chain_of x).first ≤ (chain_of x).last) →
    AreInOrder (λ (x y : Chain). ((chain_of x).last < (chain_of y).first) × (((chain_of x).first ≤ (chain_of x).last) × ((chain_of y).first ≤ (chain_of y).last))) cs
memory_both [] order each = tt
memory_both (c ∷ cs) order each = (λ y there. (order.0 y there, (each c (inl refl), each y (inr there))), memory_both cs order.1 (λ x there. each x (inr there)))

both : (cs : List Chain) → AreChains (map chain_of cs) → AreInOrder (λ (x y : Chain). ((chain_of x).last < (chain_of y).first) × (((chain_of x).first ≤ (chain_of x).last) × ((chain_of y).first ≤ (chain_of y).last))) cs
both cs h = memory_both cs (memory_order cs h.rising) (memory_each cs h.each)

pub ends_below : (r : ℕ) (cs : List Chain) → AreChains (map chain_of cs) → IsPartitionedBy (λ (x : Chain). nat_lt (chain_of x).last r) cs
ends_below r cs h = parted (λ (x y : Chain). ((chain_of x).last < (chain_of y).first) × (((chain_of x).first ≤ (chain_of x).last) × ((chain_of y).first ≤ (chain_of y).last))) (λ (x : Chain). nat_lt (chain_of x).last r)
    (λ low high order e. let a = order.0 in let b = order.1.1 in grind (arith, a, b, e, nat_tests)) cs (both cs h)

pub begins_below : (r : ℕ) (cs : List Chain) → AreChains (map chain_of cs) → IsPartitionedBy (λ (x : Chain). nat_lt (chain_of x).first r) cs
begins_below r cs h = parted (λ (x y : Chain). ((chain_of x).last < (chain_of y).first) × (((chain_of x).first ≤ (chain_of x).last) × ((chain_of y).first ≤ (chain_of y).last))) (λ (x : Chain). nat_lt (chain_of x).first r)
    (λ low high order e. let a = order.0 in let b = order.1.0 in grind (arith, a, b, e, nat_tests)) cs (both cs h)

taken_one : (cs : List Chain) (k : ℕ) (c : ChainKept) → Has (take k (map chain_of cs)) c → (x : Chain) × Has (take k cs) x × (chain_of x ≡ c)
taken_one cs k c there = map_has chain_of (take k cs) c (subst (λ (xs : List ChainKept). Has xs c) (sym (take_kept cs k)) there)

dropped_one : (cs : List Chain) (k : ℕ) (c : ChainKept) → Has (drop k (map chain_of cs)) c → (x : Chain) × Has (drop k cs) x × (chain_of x ≡ c)
dropped_one cs k c there = map_has chain_of (drop k cs) c (subst (λ (xs : List ChainKept). Has xs c) (sym (drop_kept cs k)) there)

pub ends_placed : (r : ℕ) (cs : List Chain) (k : ℕ) → k ≤ length cs → IsPartitionPoint (λ (x : Chain). nat_lt (chain_of x).last r ≡ true) (λ (x : Chain). nat_lt (chain_of x).last r ≡ false) cs k →
    IsPlace r (map chain_of cs) k
ends_placed r cs k le point =
    let p = placed (λ (x : Chain). nat_lt (chain_of x).last r) cs k le point in
    record {
      front = λ c there. let m = taken_one cs k c there in let e = p.0 m.0 m.1 in let last = ap (λ (z : ChainKept). z.last) m.2 in grind (arith, e, last, nat_tests);
      back = λ c there. let m = dropped_one cs k c there in let e = p.1 m.0 m.1 in let last = ap (λ (z : ChainKept). z.last) m.2 in grind (arith, e, last, nat_tests);
    }

pub begins_placed : (r : ℕ) (cs : List Chain) (k : ℕ) → k ≤ length cs → IsPartitionPoint (λ (x : Chain). nat_lt (chain_of x).first r ≡ true) (λ (x : Chain). nat_lt (chain_of x).first r ≡ false) cs k →
    IsStart r (map chain_of cs) k
begins_placed r cs k le point =
    let p = placed (λ (x : Chain). nat_lt (chain_of x).first r) cs k le point in
    record {
      front = λ c there. let m = taken_one cs k c there in let e = p.0 m.0 m.1 in let first = ap (λ (z : ChainKept). z.first) m.2 in grind (arith, e, first, nat_tests);
      back = λ c there. let m = dropped_one cs k c there in let e = p.1 m.0 m.1 in let first = ap (λ (z : ChainKept). z.first) m.2 in grind (arith, e, first, nat_tests);
    }
