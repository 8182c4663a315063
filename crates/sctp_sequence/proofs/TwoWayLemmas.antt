-- The pairs of a map: each key with a value is among them, each of them is one's, and so it stays as values change.
use Rattle.std.proofs.Common.{◌≡◌, ℕ, zero, suc, ◌+◌, ◌<◌, ◌≤◌, List, [], ◌∷◌, length, map, get_or, Bool, true, Option, Some, None, refl, sym, ap, ◌∙◌, arith, subst}
use Rattle.std.specs.Prelude.{set, replicate}
use Rattle.std.specs.List.{Contains, sum_by}
use Rattle.std.proofs.lemmas.List.{length-map, get_or-map}
use Rattle.std.proofs.lemmas.List.Sums.{sum_by-append, sum_by-cons}
use Rattle.sctp_sequence.specs.Pairs.{PairsKept, AreSame, FirstFromAnswer}
use Rattle.sctp_sequence.specs.TwoWays.{value_of, FirstKeyAnswer, pair_on, pairs_from, turned, IsMapOf}
use Rattle.sctp_sequence.specs.declared.pairs.Pair.{Pair}
use Rattle.sctp_sequence.specs.declared.two_way_map.TwoWayMap.{TwoWayMap}
use Rattle.sctp_sequence.proofs.PairLemmas.{pair_with}

-- ---- what is among the pairs

pub pair_there : (from at n t : ℕ) (os : List (Option ℕ)) → n ≡ from + at → value_of at os ≡ Some t → Contains (pairs_from from os) (pair_with n t)
pair_there from at n t [] is there = absurd (cc)
pair_there from zero n t (None ∷ os) is there = absurd (cc)
pair_there from zero n t (Some u ∷ os) is there =
    let here : from ≡ n = omega (arith, is) in
    let same : u ≡ t = cc in
    (0, omega arith, ap (λ (k : ℕ). pair_with k u) here ∙ ap (λ (k : ℕ). pair_with n k) same)
pair_there from (suc at) n t (None ∷ os) is there = pair_there (suc from) at n t os (omega (arith, is)) there
pair_there from (suc at) n t (Some u ∷ os) is there =
    let rest = pair_there (suc from) at n t os (omega (arith, is)) there in
    (suc rest.0, omega (arith, rest.1), rest.2)

-- a pair is a key with its value
record IsPairOf (from : ℕ) (os : List (Option ℕ)) (p : Pair) : Type 0 where
  at : ℕ
  number : p.first ≡ from + at
  there : value_of at os ≡ Some p.second

is_one : (from k : ℕ) (os : List (Option ℕ)) (d : Pair) → k < length (pairs_from from os) → IsPairOf from os (get_or (pairs_from from os) k d)
is_one from k [] d lt = absurd (omega (arith, lt))
is_one from k (None ∷ os) d lt =
    let rest = is_one (suc from) k os d lt in
    record { at = suc rest.at; number = omega (arith, rest.number); there = rest.there }
is_one from zero (Some u ∷ os) d lt = record { at = 0; number = omega arith; there = refl }
is_one from (suc k) (Some u ∷ os) d lt =
    let rest = is_one (suc from) k os d (omega (arith, lt)) in
    record { at = suc rest.at; number = omega (arith, rest.number); there = rest.there }

pub value_there : (os : List (Option ℕ)) (p : Pair) → Contains (pairs_from 0 os) p → value_of p.first os ≡ Some p.second
value_there os p there =
    let own = subst (λ (q : Pair). IsPairOf 0 os q) there.2 (is_one 0 there.0 os p there.1) in
    let first : own.at ≡ p.first = let number = own.number in omega (arith, number) in
    ap (λ (n : ℕ). value_of n os) (sym first) ∙ own.there

-- the same with the other number first
pub turned_there : (ps : List Pair) (p : Pair) → Contains ps p → Contains (map turned ps) (turned p)
turned_there ps p there = (there.0, (let long = length-map ps turned in omega (arith, long, there.1)), get_or-map turned ps there.0 p (turned p) there.1 ∙ ap turned there.2)

turned_back : (ps : List Pair) (p : Pair) → Contains (map turned ps) p → Contains ps (turned p)
turned_back ps p there =
    let long = length-map ps turned in
    let lt : there.0 < length ps = omega (arith, long, there.1) in
    (there.0, lt, ap turned (sym (get_or-map turned ps there.0 (turned p) p lt) ∙ there.2))

pub key_there : (os : List (Option ℕ)) (p : Pair) → Contains (map turned (pairs_from 0 os)) p → value_of p.second os ≡ Some p.first
key_there os p there = value_there os (turned p) (turned_back (pairs_from 0 os) p there)

-- ---- what is found

pub first_key : (n : ℕ) (os : List (Option ℕ)) (o : Option Pair) → FirstFromAnswer n (pairs_from 0 os) o → FirstKeyAnswer n os o
first_key n os None none = λ j le. by_value j le (value_of j os) refl
  where
    by_value : (j : ℕ) → n ≤ j → (o : Option ℕ) → value_of j os ≡ o → value_of j os ≡ None
    by_value j le None is = is
    by_value j le (Some t) is = absurd (let low = none (pair_with j t) (pair_there 0 j j t os (omega arith) is) in omega (arith, low, le))
first_key n os (Some p) found = record { above = found.above; there = value_there os p found.there; before = λ j le less. by_value j le less (value_of j os) refl }
  where
    by_value : (j : ℕ) → n ≤ j → j < p.first → (o : Option ℕ) → value_of j os ≡ o → value_of j os ≡ None
    by_value j le less None is = is
    by_value j le less (Some t) is = absurd (let least = found.first (pair_with j t) (pair_there 0 j j t os (omega arith) is) le in omega (arith, least, less))

-- the pair of a value, with the value first
pub value_first : (j t : ℕ) (os : List (Option ℕ)) → value_of j os ≡ Some t → Contains (map turned (pairs_from 0 os)) (pair_with t j)
value_first j t os is = turned_there (pairs_from 0 os) (pair_with j t) (pair_there 0 j j t os (omega arith) is)

-- ---- the value of a key changes

-- what a sum counts for a key
abbrev counts_for : (Pair → ℕ) → (key : ℕ) → Option ℕ → ℕ
counts_for f j o = sum_by f (pair_on j o)

pairs_set : (f : Pair → ℕ) (from at n : ℕ) (os : List (Option ℕ)) (o : Option ℕ) → n ≡ from + at → at < length os
    → sum_by f (pairs_from from (set os at o)) + counts_for f n (value_of at os) ≡ sum_by f (pairs_from from os) + counts_for f n o
pairs_set f from at n [] o is lt = absurd (omega arith)
pairs_set f from zero n (x ∷ os) o is lt =
    let here : n ≡ from = omega (arith, is) in
    let one = sum_by-append f (pair_on from x) (pairs_from (suc from) os) in
    let other = sum_by-append f (pair_on from o) (pairs_from (suc from) os) in
    let old : counts_for f n x ≡ counts_for f from x = ap (λ (k : ℕ). counts_for f k x) here in
    let new : counts_for f n o ≡ counts_for f from o = ap (λ (k : ℕ). counts_for f k o) here in
    omega (arith, one, other, old, new)
pairs_set f from (suc at) n (x ∷ os) o is lt =
    let one = sum_by-append f (pair_on from x) (pairs_from (suc from) os) in
    let rest = pairs_set f (suc from) at n os o (omega (arith, is)) (omega (arith, lt)) in
    omega (arith, one, sum_by-append f (pair_on from x) (pairs_from (suc from) (set os at o)), rest)

sum_turned : (f : Pair → ℕ) (ps : List Pair) → sum_by f (map turned ps) ≡ sum_by (λ p. f (turned p)) ps
sum_turned f [] = refl
sum_turned f (p ∷ ps) =
    let other = sum_by-cons (λ (q : Pair). f (turned q)) p ps in
    omega (arith, sum_by-cons f (turned p) (map turned ps), other, sum_turned f ps)

-- what a key with a value counts for
counts_one : (f : Pair → ℕ) (at t : ℕ) (o : Option ℕ) → o ≡ Some t → counts_for f at o ≡ f (pair_with at t)
counts_one f at t o is = let one = sum_by-cons f (pair_with at t) [] in let own : counts_for f at o ≡ counts_for f at (Some t) = ap (counts_for f at) is in omega (arith, one, own)

-- one that has a value has none: its pair goes
left : (at t : ℕ) (os : List (Option ℕ)) → at < length os → value_of at os ≡ Some t → AreSame (pairs_from 0 os) (pair_with at t ∷ pairs_from 0 (set os at None))
left at t os lt is f =
    let step = pairs_set f 0 at at os None (omega arith) lt in
    omega (arith, step, counts_one f at t (value_of at os) is, sum_by-cons f (pair_with at t) (pairs_from 0 (set os at None)))

-- one that has none has a value: its pair comes
entered : (at t : ℕ) (os : List (Option ℕ)) → at < length os → value_of at os ≡ None → AreSame (pairs_from 0 (set os at (Some t))) (pair_with at t ∷ pairs_from 0 os)
entered at t os lt is f =
    let step = pairs_set f 0 at at os (Some t) (omega arith) lt in
    let own = counts_one f at t (Some t) refl in
    let none : counts_for f at (value_of at os) ≡ 0 = ap (counts_for f at) is in
    omega (arith, step, own, none, sum_by-cons f (pair_with at t) (pairs_from 0 os))

-- the same of pairs with the other number first
turned_same : (ps qs : List Pair) → AreSame ps qs → AreSame (map turned ps) (map turned qs)
turned_same ps qs same f =
    let all = same (λ p. f (turned p)) in
    omega (arith, sum_turned f ps, sum_turned f qs, all)

-- what goes on both sides leaves the same
same_rest : (p : Pair) (ps qs us vs : List Pair) → AreSame ps us → AreSame ps (p ∷ qs) → AreSame us (p ∷ vs) → AreSame qs vs
same_rest p ps qs us vs same gone less f = omega (arith, sum_by-cons f p qs, sum_by-cons f p vs, same f, gone f, less f)

same_more : (p : Pair) (ps qs us vs : List Pair) → AreSame ps us → AreSame qs (p ∷ ps) → AreSame vs (p ∷ us) → AreSame qs vs
same_more p ps qs us vs same come more f = omega (arith, sum_by-cons f p ps, sum_by-cons f p us, same f, come f, more f)

pub map_left : (at t : ℕ) (os : List (Option ℕ)) (old : TwoWayMap) (one other : PairsKept) (a b : Bool) → at < length os → value_of at os ≡ Some t → IsMapOf os old
    → (a ≡ true → AreSame old.by_key.items (pair_with at t ∷ one.items)) → ((ps : List Pair) → AreSame old.by_key.items ps → Contains ps (pair_with at t) → a ≡ true)
    → (b ≡ true → AreSame old.by_value.items (pair_with t at ∷ other.items)) → ((ps : List Pair) → AreSame old.by_value.items ps → Contains ps (pair_with t at) → b ≡ true)
    → IsMapOf (set os at None) (record { by_key = one; by_value = other; is_complete = old.is_complete })
map_left at t os old one other a b lt is h gone there gone_turned there_turned =
    let less = left at t os lt is in
    record {
      by_key = λ on. same_rest (pair_with at t) old.by_key.items one.items (pairs_from 0 os) (pairs_from 0 (set os at None)) (h.by_key on) (gone (there (pairs_from 0 os) (h.by_key on) (pair_there 0 at at t os (omega arith) is))) less;
      by_value = λ on. same_rest (pair_with t at) old.by_value.items other.items (map turned (pairs_from 0 os)) (map turned (pairs_from 0 (set os at None))) (h.by_value on)
          (gone_turned (there_turned (map turned (pairs_from 0 os)) (h.by_value on) (value_first at t os is))) (turned_same (pairs_from 0 os) (pair_with at t ∷ pairs_from 0 (set os at None)) less);
    }

pub map_entered : (at t : ℕ) (os : List (Option ℕ)) (old : TwoWayMap) (one other : PairsKept) (a b : Bool) → at < length os → value_of at os ≡ None → IsMapOf os old
    → (a ≡ true → old.is_complete ≡ true) → (b ≡ true → a ≡ true) → (a ≡ true → AreSame one.items (pair_with at t ∷ old.by_key.items)) → (b ≡ true → AreSame other.items (pair_with t at ∷ old.by_value.items))
    → IsMapOf (set os at (Some t)) (record { by_key = one; by_value = other; is_complete = b })
map_entered at t os old one other a b lt is h was kept come come_turned =
    let more = entered at t os lt is in
    record {
      by_key = λ on. same_more (pair_with at t) old.by_key.items one.items (pairs_from 0 os) (pairs_from 0 (set os at (Some t))) (h.by_key (was (kept on))) (come (kept on)) more;
      by_value = λ on. same_more (pair_with t at) old.by_value.items other.items (map turned (pairs_from 0 os)) (map turned (pairs_from 0 (set os at (Some t)))) (h.by_value (was (kept on))) (come_turned on)
          (turned_same (pairs_from 0 (set os at (Some t))) (pair_with at t ∷ pairs_from 0 os) more);
    }

-- ---- no value

none_there : (from n : ℕ) → pairs_from from (replicate n None) ≡ []
none_there from zero = refl
none_there from (suc n) = none_there (suc from) n

pub map_fresh : (n : ℕ) (one other : PairsKept) (complete : Bool) → one.items ≡ [] → other.items ≡ [] → IsMapOf (replicate n None) (record { by_key = one; by_value = other; is_complete = complete })
map_fresh n one other complete none empty = record {
  by_key = λ on f. ap (sum_by f) (none ∙ sym (none_there 0 n));
  by_value = λ on f. ap (sum_by f) (empty ∙ sym (ap (map turned) (none_there 0 n)));
}
