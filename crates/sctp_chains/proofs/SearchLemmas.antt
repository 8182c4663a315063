-- Whole messages among chains: by a rank, and the first within bounds.
use Rattle.std.proofs.Common.{◌≡◌, ℕ, zero, suc, ◌<◌, ◌≤◌, ◌⊎◌, true, false, List, [], ◌∷◌, length, get_or, take, drop, map, Option, Some, None, inl, inr, refl, sym, ◌∙◌, ap, subst, arith}
use Rattle.std.specs.Prelude.{max}
use Rattle.std.proofs.lemmas.Bool.{cases_lt}
use Rattle.sctp_model.specs.numbers.Lists.{Has, AreInOrder}
use Rattle.sctp_chains.specs.Links.{ChainKept, chain_of, is_whole, IsBelow, AreChains}
use Rattle.sctp_chains.specs.declared.chain.Chain.{Chain}
use Rattle.sctp_chains.specs.declared.search.Found.{Found}
use Rattle.sctp_chains.specs.inner.Filing.{IsPlace}
use Rattle.sctp_chains.specs.inner.Finding.{IsStart, IsIn, IsWholeAt, IsWholeHere, IsWholeWithRank, IsFirstWhole, IsOver, IsStop, AreOpen}
use Rattle.sctp_chains.proofs.ListLemmas.{in_part, halves, around, here_first, at_same, take_one, dropped_has, none_dropped, order_back}
use Rattle.sctp_chains.proofs.MemoryLemmas.{at_kept, length_kept}
use Rattle.sctp_chains.proofs.OpenLemmas.{taken_more}
use Rattle.sctp_chains.proofs.ChainLemmas.{chain_order, one_chain}

-- ---- places passed over

max_left : (a b : ℕ) → b ≤ a → max a b ≡ a
max_left a b le = omega (arith, le)

max_right : (a b : ℕ) → a ≤ b → max a b ≡ b
max_right a b le = omega (arith, le)

max_above : (a b : ℕ) → a ≤ max a b
max_above a b = omega arith

dropped_more : (j k : ℕ) (cs : List ChainKept) (c : ChainKept) → j ≤ k → Has (drop k cs) c → Has (drop j cs) c
dropped_more zero k cs c le there = dropped_has cs k c there
dropped_more (suc j) zero cs c le there = absurd (omega (arith, le))
dropped_more (suc j) (suc k) [] c le there = there
dropped_more (suc j) (suc k) (x ∷ cs) c le there = dropped_more j k cs c (omega (arith, le)) there

pub over_more : (cs : List ChainKept) (b k : ℕ) (x : ChainKept) → k < length cs → x ≡ get_or cs k x → is_whole x ≡ false → IsOver cs b k → IsOver cs b (suc k)
over_more cs b k x less at none over = record {
  between = λ c there. elim (in_part (take k cs) (x ∷ []) c (subst (λ (xs : List ChainKept). Has xs c) (take_one cs k x less at) there)) [
    | inl early ↦ over.between c early
    | inr last ↦ elim last [ inl is ↦ inr (subst (λ (z : ChainKept). is_whole z ≡ false) is none) | inr end ↦ absurd end ]
  ];
  behind = λ c there. over.behind c (dropped_more k (suc k) cs c (omega arith) there);
}

pub over_all : (cs : List ChainKept) (b k : ℕ) → length cs ≤ k → IsOver cs b k → IsOver cs b (length cs)
over_all cs b k past over = record {
  between = λ c there. over.between c (taken_more (length cs) k cs c past there);
  behind = λ c there. absurd (none_dropped cs (length cs) c (omega arith) there);
}

-- chains that are known to be open, and those behind them that were passed over
pub open_upto : (cs : List ChainKept) (begin known k : ℕ) → begin ≤ known → AreOpen known cs → IsOver cs (max begin known) k → AreOpen k cs
open_upto cs begin known k le opens over = λ c there. elim (over.between c there) [
  | inl early ↦ opens c (subst (λ (n : ℕ). Has (take n cs) c) (max_right begin known le) early)
  | inr is ↦ is
]

module _ (cs : List ChainKept) (h : AreChains cs) where
  -- ---- the chain at a place, and those behind it

  pub stands_in : (k : ℕ) (x : ChainKept) → k < length cs → x ≡ get_or cs k x → Has (drop k cs) x
  stands_in k x less at = subst (λ (xs : List ChainKept). Has xs x) (sym (here_first cs k x less at)) (inl refl)

  -- none behind a place begins below the chain there
  pub not_lower : (k : ℕ) (x : ChainKept) → k < length cs → x ≡ get_or cs k x → (c : ChainKept) → Has (drop k cs) c → x.first ≤ c.first
  not_lower k x less at c there = elim (subst (λ (xs : List ChainKept). Has xs c) (here_first cs k x less at) there) [
    | inl is ↦ let same = ap (λ (z : ChainKept). z.first) is in omega (arith, same)
    | inr later ↦
        let order = chain_order x (h.each x (dropped_has cs k x (stands_in k x less at))) in
        let below = (order_back IsBelow (take k cs) (x ∷ drop (suc k) cs) (subst (AreInOrder IsBelow) (sym (around cs k x less at)) h.rising)).0 c later in
        omega (arith, order, below)
  ]

  pub front_or_back : (k : ℕ) (c : ChainKept) → Has cs c → Has (take k cs) c ⊎ Has (drop k cs) c
  front_or_back k c there = in_part (take k cs) (drop k cs) c (subst (λ (xs : List ChainKept). Has xs c) (sym (halves cs k)) there)

  -- what was found at a place is the chain there
  found_here : (k : ℕ) (x : ChainKept) (w : Found) → k < length cs → x ≡ get_or cs k x → w.at ≡ k → (c : ChainKept) → IsWholeAt cs w c → x ≡ c
  found_here k x w less at is c found = at ∙ ap (λ (n : ℕ). get_or cs n x) (sym is) ∙ found.here x

  -- ---- by a rank

  pub with_rank : (k r : ℕ) (x : ChainKept) (o : Option Found) → k < length cs → x ≡ get_or cs k x → IsPlace r cs k → x.first ≤ r → IsWholeHere cs k o → IsWholeWithRank cs r o
  with_rank k r x None less at place low none = λ c there in_it.
      let here = stands_in k x less at in
      let is = one_chain cs h x c (dropped_has cs k x here) there r low (place.back x here) in_it.0 in_it.1 in
      subst (λ (z : ChainKept). is_whole z ≡ false) is (none x at)
  with_rank k r x (Some w) less at place low found =
      let is = found_here k x w less at found.0 found.1.0 found.1.1 in
      (found.1.0, found.1.1, subst (IsIn r) is (low, place.back x (stands_in k x less at)))

  pub none_with : (k r : ℕ) → IsPlace r cs k → ((x : ChainKept) → k < length cs → x ≡ get_or cs k x → x.first ≤ r → ⊥) → IsWholeWithRank cs r None
  none_with k r place none = λ c there in_it. elim (front_or_back k c there) [
    | inl front ↦ let low = place.front c front in let high = in_it.1 in absurd (omega (arith, low, high))
    | inr back ↦ elim (cases_lt k (length cs)) [
      | inr past ↦ absurd (none_dropped cs k c past back)
      | inl less ↦
          let x = get_or cs k c in
          let at : x ≡ get_or cs k x = at_same cs k c x less in
          absurd (none x less at (let low = not_lower k x less at c back in let high = in_it.0 in omega (arith, low, high)))
    ]
  ]

  -- ---- the first within bounds

  -- No chain before place k that begins at or past a rank is whole, and none from there on begins below it.
  pub record IsPassed (from k : ℕ) : Type 0 where
    pub none : (c : ChainKept) → Has (take k cs) c → from ≤ c.first → is_whole c ≡ false
    pub back : (c : ChainKept) → Has (drop k cs) c → from ≤ c.first

  -- what lies before place k passed it: what begins lower lies before the start, and the first chains are open
  pub passed_upto : (from begin known k : ℕ) → IsStart from cs begin → AreOpen known cs → IsOver cs (max begin known) k → IsPassed from k
  passed_upto from begin known k start opens over = record {
    none = λ c there low. elim (over.between c there) [
      | inl early ↦ elim (cases_lt known begin) [
        | inl less ↦ absurd (let below = start.front c (subst (λ (n : ℕ). Has (take n cs) c) (max_left begin known (omega (arith, less))) early) in omega (arith, below, low))
        | inr le ↦ opens c (subst (λ (n : ℕ). Has (take n cs) c) (max_right begin known le) early)
      ]
      | inr is ↦ is
    ];
    back = λ c there. start.back c (dropped_more begin (max begin known) cs c (omega (arith, max_above begin known)) (over.behind c there));
  }

  pub first_found : (from last k : ℕ) (x : ChainKept) (o : Option Found) → k < length cs → x ≡ get_or cs k x → IsPassed from k → x.first ≤ last → is_whole x ≡ true → IsWholeHere cs k o →
      IsFirstWhole cs from last o
  first_found from last k x None less at p high whole none = let is = none x at in absurd (cc)
  first_found from last k x (Some v) less at p high whole found =
      let same = found_here k x v less at found.0 found.1.0 found.1.1 in
      let first = ap (λ (z : ChainKept). z.first) same in
      let low = p.back x (stands_in k x less at) in (
        found.1.0,
        found.1.1,
        omega (arith, first, low),
        omega (arith, first, high),
        λ d there from_on below. elim (front_or_back k d there) [
          | inl front ↦ p.none d front from_on
          | inr back ↦ let lowest = not_lower k x less at d back in absurd (omega (arith, lowest, below, first))
        ],
      )

  -- the first chain, if it is whole and within bounds
  pub found_first : (from last : ℕ) (x : ChainKept) (w : Found) → 0 < length cs → x ≡ get_or cs 0 x → from ≤ x.first → x.first ≤ last → IsWholeHere cs 0 (Some w) → IsFirstWhole cs from last (Some w)
  found_first from last x w less at low high found =
      let first = ap (λ (z : ChainKept). z.first) (found_here 0 x w less at found.0 found.1.0 found.1.1) in (
        found.1.0,
        found.1.1,
        omega (arith, first, low),
        omega (arith, first, high),
        λ d there from_on below. absurd (let lowest = not_lower 0 x less at d there in omega (arith, lowest, below, first)),
      )

  -- if it begins past them, none does
  pub past_first : (from last : ℕ) (x : ChainKept) → 0 < length cs → x ≡ get_or cs 0 x → last < x.first → IsFirstWhole cs from last None
  past_first from last x less at past = λ c there low high. absurd (let lowest = not_lower 0 x less at c there in omega (arith, lowest, past, high))

  pub none_further : (from last k : ℕ) (x : ChainKept) → k < length cs → x ≡ get_or cs k x → IsPassed from k → last < x.first → IsFirstWhole cs from last None
  none_further from last k x less at p past = λ c there low high. elim (front_or_back k c there) [
    | inl front ↦ p.none c front low
    | inr back ↦ let lowest = not_lower k x less at c back in absurd (omega (arith, lowest, past, high))
  ]

  pub none_at_all : (from last k : ℕ) → length cs ≤ k → IsPassed from k → IsFirstWhole cs from last None
  none_at_all from last k past p = λ c there low high. elim (front_or_back k c there) [
    | inl front ↦ p.none c front low
    | inr back ↦ absurd (none_dropped cs k c past back)
  ]

-- ---- where a search stopped, as chains lie in memory

module _ (cs : List Chain) (from last begin known m k : ℕ) (is : m ≡ max begin known) (start : AreChains (map chain_of cs) → IsStart from (map chain_of cs) begin)
    (stop : IsStop last (map chain_of cs) m k) (h : AreChains (map chain_of cs)) (opens : AreOpen known (map chain_of cs)) where
  passed : IsPassed (map chain_of cs) h from k
  passed = passed_upto (map chain_of cs) h from begin known k (start h) opens (subst (λ (n : ℕ). IsOver (map chain_of cs) n k) is stop.over)

  pub stopped_here : (x : Chain) (o : Option Found) → k < length cs → x ≡ get_or cs k x → (chain_of x).first ≤ last → IsWholeHere (map chain_of cs) k o → IsFirstWhole (map chain_of cs) from last o
  stopped_here x o l at low whole =
      let here = sym (at_kept cs k x l at (chain_of x)) in
      let less : k < length (map chain_of cs) = let n = length_kept cs in omega (arith, l, n) in
      first_found (map chain_of cs) h from last k (chain_of x) o less here passed low (stop.here (chain_of x) less here low) whole

  pub stopped_past : (x : Chain) → k < length cs → x ≡ get_or cs k x → last < (chain_of x).first → IsFirstWhole (map chain_of cs) from last None
  stopped_past x l at high =
      none_further (map chain_of cs) h from last k (chain_of x) (let n = length_kept cs in omega (arith, l, n)) (sym (at_kept cs k x l at (chain_of x))) passed high

  pub stopped_end : length cs ≤ k → IsFirstWhole (map chain_of cs) from last None
  stopped_end past = none_at_all (map chain_of cs) h from last k (let n = length_kept cs in omega (arith, past, n)) passed
