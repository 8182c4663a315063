-- Where a fragment belongs among chains, and one chain with it in place of those that it is linked to.
use Rattle.std.proofs.Common.{◌≡◌, ℕ, zero, suc, ◌<◌, ◌≤◌, false, List, [], ◌∷◌, ◌++◌, length, get_or, take, drop, None, inl, inr, refl, sym, ◌∙◌, ap, subst, append_assoc, arith}
use Rattle.std.proofs.lemmas.Bool.{cases_lt}
use Rattle.sctp_model.specs.numbers.Lists.{Has, AreInOrder}
use Rattle.sctp_chains.specs.Same.{AreSame}
use Rattle.sctp_chains.specs.Cells.{Cell}
use Rattle.sctp_chains.specs.Links.{ChainKept, cells_in, cells_of, is_linked, IsChain, IsBelow, AreChains}
use Rattle.sctp_chains.specs.inner.Filing.{IsPlace, Avoids, IsLinkBefore, IsLinkBehind, HaveMore}
use Rattle.sctp_chains.proofs.ListLemmas.{in_back, in_part, in_midst, around, here_first, at_same, take_one, dropped_has, none_dropped, order_across, order_back}
use Rattle.sctp_chains.proofs.SameLemmas.{same_as, same_through, same_back, same_midst, same_before, same_behind}
use Rattle.sctp_chains.proofs.CellLemmas.{cell_there}
use Rattle.sctp_chains.proofs.ChainLemmas.{chain_order, cells_parts, chain_cell, far_apart, replaced}

-- ---- where the fragment belongs

-- It lies behind all in front, and before all behind.
pub record IsSpot (a : ChainKept) (front back : List ChainKept) : Type 0 where
  pub own : IsChain a
  pub before : (c : ChainKept) → Has front c → c.last < a.first
  pub behind : (c : ChainKept) → Has back c → a.last < c.first

pub spot : (cs : List ChainKept) (k : ℕ) (a : ChainKept) → AreChains cs → IsChain a → a.first ≡ a.last → Avoids a.first cs → IsPlace a.first cs k → IsSpot a (take k cs) (drop k cs)
spot cs k a old own one new place = record {
  own = own;
  before = place.front;
  behind = λ c there. elim (cases_lt a.first c.first) [
    | inl less ↦ omega (arith, less, one)
    | inr late ↦
        let high = place.back c there in
        let here = dropped_has cs k c there in
        let last = (old.each c here).last in
        let m = cell_there c.first c.head c.ends c.parts a.first late (omega (arith, high, last)) in
        absurd (new m.0 (chain_cell cs c m.0 here m.1) m.2)
  ];
}

pub none_before : (cs : List ChainKept) (k : ℕ) (a : ChainKept) → AreChains cs → k ≤ length cs → IsSpot a (take k cs) (drop k cs) → IsLinkBefore cs k a None →
    (x : ChainKept) → Has (take k cs) x → is_linked x a ≡ false
none_before cs zero a old le s none x there = absurd there
none_before cs (suc j) a old le s none x there =
    let less : j < length cs = omega (arith, le) in
    let c = get_or cs j x in
    let at : c ≡ get_or cs j c = at_same cs j x c less in
    let split = take_one cs j c less at in
    let whole = around cs j c less at in
    elim (in_part (take j cs) (c ∷ []) x (subst (λ (xs : List ChainKept). Has xs x) split there)) [
      | inl early ↦
          let low = order_across IsBelow (take j cs) (c ∷ drop (suc j) cs) (subst (AreInOrder IsBelow) (sym whole) old.rising) x c early (inl refl) in
          let order = chain_order c (old.each c (subst (λ (xs : List ChainKept). Has xs c) whole (in_midst (take j cs) (drop (suc j) cs) c))) in
          let high = s.before c (subst (λ (xs : List ChainKept). Has xs c) (sym split) (in_back (take j cs) (c ∷ []) c (inl refl))) in
          far_apart x a (λ e. omega (arith, low, order, high, e))
      | inr last ↦ elim last [ inl is ↦ subst (λ (y : ChainKept). is_linked y a ≡ false) is (none j refl c less at) | inr end ↦ absurd end ]
    ]

pub none_behind : (cs : List ChainKept) (k : ℕ) (a : ChainKept) → AreChains cs → IsSpot a (take k cs) (drop k cs) → IsLinkBehind cs k a None →
    (x : ChainKept) → Has (drop k cs) x → is_linked a x ≡ false
none_behind cs k a old s none x there = elim (cases_lt k (length cs)) [
  | inr past ↦ absurd (none_dropped cs k x past there)
  | inl less ↦
      let c = get_or cs k x in
      let at : c ≡ get_or cs k c = at_same cs k x c less in
      let split = here_first cs k c less at in
      let whole = around cs k c less at in
      let all = subst (λ (xs : List ChainKept). Has xs x) split there in
      elim all [
        | inl is ↦ subst (λ (y : ChainKept). is_linked a y ≡ false) is (none c less at)
        | inr later ↦
            let order = chain_order c (old.each c (subst (λ (xs : List ChainKept). Has xs c) whole (in_midst (take k cs) (drop (suc k) cs) c))) in
            let low = s.behind c (subst (λ (xs : List ChainKept). Has xs c) (sym split) (inl refl)) in
            let high = (order_back IsBelow (take k cs) (c ∷ drop (suc k) cs) (subst (AreInOrder IsBelow) (sym whole) old.rising)).0 x later in
            far_apart a x (λ e. omega (arith, order, low, high, e))
      ]
]

-- ---- one fragment more

pub gains : (front mid back : List ChainKept) (m a : ChainKept) → AreChains (front ++ (mid ++ back)) → IsSpot m front back →
    ((c : ChainKept) → Has (front ++ back) c → (is_linked c m ≡ false) × (is_linked m c ≡ false)) → AreSame (cells_in m) (cells_in a ++ cells_of mid) →
    HaveMore a (front ++ (mid ++ back)) (front ++ m ∷ back)
gains front mid back m a old s none same = record {
  chains = replaced front mid back m old s.own s.before s.behind none;
  cells =
      let f = cells_of front in let b = cells_of back in let i = cells_of mid in let w = cells_in a in
      let one = same_as (cells_of (front ++ m ∷ back)) (f ++ (cells_in m ++ b)) (cells_parts front (m ∷ back)) in
      let two = same_midst f (cells_in m) b in
      let three = same_before (cells_in m) (w ++ i) (f ++ b) same in
      let four = same_as ((w ++ i) ++ (f ++ b)) (w ++ (i ++ (f ++ b))) (append_assoc w i (f ++ b)) in
      let five = same_behind w (i ++ (f ++ b)) (f ++ (i ++ b)) (same_back (f ++ (i ++ b)) (i ++ (f ++ b)) (same_midst f i b)) in
      let six = same_as (w ++ (f ++ (i ++ b))) (w ++ cells_of (front ++ (mid ++ back))) (ap (λ (xs : List Cell). w ++ xs) (sym (cells_parts front (mid ++ back) ∙ ap (λ (xs : List Cell). f ++ xs) (cells_parts mid back)))) in
      same_through _ _ _ one (same_through _ _ _ two (same_through _ _ _ three (same_through _ _ _ four (same_through _ _ _ five six))));
}

-- a chain that lies before another isn't linked the other way
pub not_back : (c d : ChainKept) → IsChain c → IsChain d → c.last < d.first → is_linked d c ≡ false
not_back c d h k below = far_apart d c (λ e. let a = chain_order c h in let b = chain_order d k in omega (arith, a, b, below, e))

pub append_nil : (xs : List Cell) → xs ++ [] ≡ xs
append_nil [] = refl
append_nil (x ∷ xs) = ap (λ (ys : List Cell). x ∷ ys) (append_nil xs)
