-- Pairs of entries: the pair of each entry, the entry of each pair, and which pairs there are once one is added or removed.
use Rattle.std.proofs.Common.{◌≡◌, ℕ, zero, suc, ◌+◌, ◌%◌, ◌^◌, ◌<◌, List, [], ◌∷◌, ◌++◌, length, get_or, Some, inl, inr, refl, sym, ◌∙◌, ap, subst, arith}
use Rattle.std.specs.Prelude.{slice_get, ◌==◌, ◌&&◌, if◌then◌else◌}
use Rattle.std.specs.List.{Contains, sum_by}
use Rattle.std.proofs.lemmas.Bool.{cases_lt}
use Rattle.std.proofs.lemmas.Bool.Decides.{nat_tests}
use Rattle.std.proofs.lemmas.List.Sums.{sum_by-append, sum_by-cons, get_or-le-sum_by}
use Rattle.sctp_sequence.specs.Pairs.{AreSame}
use Rattle.sctp_sequence.specs.declared.pairs.Pair.{Pair}
use Rattle.sctp_send.specs.inner.TicketOrder.{offset_of, pairs_from, ArePairsOf}

-- ---- what is among pairs, by what may be summed over them

-- two numbers as a pair
abbrev pub pair_with : ℕ → ℕ → Pair
pair_with a b = record { first = a; second = b }

-- one, where two numbers are those of a pair
abbrev is_pair : Pair → Pair → ℕ
is_pair p x = if (x.first == p.first) && (x.second == p.second) then 1 else 0

same_pair : (p x : Pair) → 0 < is_pair p x → x ≡ p
same_pair p x lt =
    let first : x.first ≡ p.first = grind (arith, nat_tests, lt) in
    let second : x.second ≡ p.second = grind (arith, nat_tests, lt) in
    ap (λ (n : ℕ). pair_with n x.second) first ∙ ap (λ (n : ℕ). pair_with p.first n) second

-- a pair that counts is there, where the sum is more than nothing
counted_there : (p : Pair) (xs : List Pair) → 0 < sum_by (is_pair p) xs → Contains xs p
counted_there p [] lt = absurd (omega arith)
counted_there p (x ∷ xs) lt = elim (cases_lt 0 (is_pair p x)) [
  | inl here ↦ (0, omega arith, same_pair p x here)
  | inr none ↦ let sum = sum_by-cons (is_pair p) x xs in let rest = counted_there p xs (omega (arith, sum, none, lt)) in (suc rest.0, omega (arith, rest.1), rest.2)
]

-- what is among the ones is among the others
among : (p : Pair) (xs ys : List Pair) → AreSame xs ys → Contains ys p → Contains xs p
among p xs ys same there =
    let own : is_pair p p ≡ 1 = grind (arith, nat_tests) in
    let one : is_pair p (get_or ys there.0 p) ≡ 1 = ap (is_pair p) there.2 ∙ own in
    let some = get_or-le-sum_by (is_pair p) ys there.0 p there.1 in
    counted_there p xs (let all = same (is_pair p) in omega (arith, all, some, one))

-- both lists are equally long
pub as_many : (xs ys : List Pair) → AreSame xs ys → length xs ≡ length ys
as_many xs ys same = sym (each_one xs) ∙ same (λ p. 1) ∙ each_one ys
  where
    each_one : (ps : List Pair) → sum_by (λ p. 1) ps ≡ length ps
    each_one [] = refl
    each_one (p ∷ ps) = let more = sum_by-cons (λ q. 1) p ps in let rest = each_one ps in omega (arith, more, rest)

-- ---- entries and pairs

long_pairs : (i : ℕ) (ts : List ℕ) → length (pairs_from i ts) ≡ length ts
long_pairs i [] = refl
long_pairs i (t ∷ ts) = ap suc (long_pairs ((i + 1) % 2 ^ 64) ts)

-- an entry has a pair
pair_there : (i n t : ℕ) (ts : List ℕ) → i < 2 ^ 64 → slice_get ts n ≡ Some t → Contains (pairs_from i ts) (pair_with t ((i + n) % 2 ^ 64))
pair_there i n t [] small read = absurd (cc)
pair_there i zero t (u ∷ us) small read =
    let same : u ≡ t = cc in
    let at : i ≡ (i + 0) % 2 ^ 64 = omega (arith, small) in
    (0, omega arith, ap (λ (k : ℕ). pair_with k i) same ∙ ap (λ (k : ℕ). pair_with t k) at)
pair_there i (suc n) t (u ∷ us) small read =
    let at : ((i + 1) % 2 ^ 64 + n) % 2 ^ 64 ≡ (i + suc n) % 2 ^ 64 = omega (arith, small) in
    let rest = subst (λ (k : ℕ). Contains (pairs_from ((i + 1) % 2 ^ 64) us) (pair_with t k)) at (pair_there ((i + 1) % 2 ^ 64) n t us (omega arith) read) in
    (suc rest.0, omega (arith, rest.1), rest.2)

-- a pair is that of an entry
entry_there : (i k : ℕ) (ts : List ℕ) (p : Pair) → i < 2 ^ 64 → k < length (pairs_from i ts) → (slice_get ts k ≡ Some (get_or (pairs_from i ts) k p).first) × ((get_or (pairs_from i ts) k p).second ≡ (i + k) % 2 ^ 64)
entry_there i k [] p small lt = absurd (omega (arith, lt))
entry_there i zero (t ∷ ts) p small lt = (refl, omega (arith, small))
entry_there i (suc k) (t ∷ ts) p small lt =
    let rest = entry_there ((i + 1) % 2 ^ 64) k ts p (omega arith) (omega (arith, lt)) in
    (rest.0, let at = rest.1 in omega (arith, at, small))

-- the ticket of a pair is the one at its offset
pub own_ticket : (ts : List ℕ) (first : ℕ) (ps : List Pair) (p : Pair) → length ts < 2 ^ 64 → ArePairsOf ts first ps → Contains ps p → slice_get ts (offset_of first p) ≡ Some p.first
own_ticket ts first ps p few h there =
    let small = h.small in
    let mine = among p (pairs_from first ts) ps (λ f. sym (h.same f)) there in
    let found = entry_there first mine.0 ts p small mine.1 in
    let long = long_pairs first ts in
    let second = ap (λ (q : Pair). q.second) mine.2 in
    let at : mine.0 ≡ offset_of first p = let is = found.1 in omega (arith, is, second, small, mine.1, long, few) in
    subst (λ (k : ℕ). slice_get ts k ≡ Some p.first) at (found.0 ∙ ap (λ (q : Pair). Some q.first) mine.2)

-- the pair of an entry, and its offset
pub own_pair : (ts : List ℕ) (first : ℕ) (ps : List Pair) (n t : ℕ) → n < 2 ^ 64 → ArePairsOf ts first ps → slice_get ts n ≡ Some t → (p : Pair) × Contains ps p × (offset_of first p ≡ n) × (p.first ≡ t)
own_pair ts first ps n t few h read =
    let p = pair_with t ((first + n) % 2 ^ 64) in
    let small = h.small in
    (p, among p ps (pairs_from first ts) h.same (pair_there first n t ts small read), omega (arith, small, few), refl)

-- ---- a pair more, or less

pairs_pushed : (i t : ℕ) (ts : List ℕ) → i < 2 ^ 64 → pairs_from i (ts ++ t ∷ []) ≡ pairs_from i ts ++ pair_with t ((i + length ts) % 2 ^ 64) ∷ []
pairs_pushed i t [] small = let at : i ≡ (i + 0) % 2 ^ 64 = omega (arith, small) in ap (λ (k : ℕ). pair_with t k ∷ []) at
pairs_pushed i t (u ∷ us) small =
    let at : ((i + 1) % 2 ^ 64 + length us) % 2 ^ 64 ≡ (i + suc (length us)) % 2 ^ 64 = omega (arith, small) in
    ap (λ (ps : List Pair). pair_with u i ∷ ps) (pairs_pushed ((i + 1) % 2 ^ 64) t us (omega arith) ∙ ap (λ (k : ℕ). pairs_from ((i + 1) % 2 ^ 64) us ++ pair_with t k ∷ []) at)

pub order_pushed : (ts : List ℕ) (first t second : ℕ) (ps qs : List Pair) → second ≡ (first + length ts) % 2 ^ 64 → AreSame qs (pair_with t second ∷ ps) → ArePairsOf ts first ps → ArePairsOf (ts ++ t ∷ []) first qs
order_pushed ts first t second ps qs at more h = record {
  small = h.small;
  same = λ f.
      let p = pair_with t ((first + length ts) % 2 ^ 64) in
      let new = ap (λ (xs : List Pair). sum_by f xs) (pairs_pushed first t ts h.small) in
      let one = sum_by-cons f p ps in
      let two = sum_by-append f (pairs_from first ts) (p ∷ []) in
      let three = sum_by-cons f p [] in
      let all = subst (λ (k : ℕ). AreSame qs (pair_with t k ∷ ps)) at more f in
      let was = h.same f in
      omega (arith, new, one, two, three, all, was);
}

pub order_behind : (ts : List ℕ) (first t : ℕ) (ps qs : List Pair) → AreSame ps (pair_with t first ∷ qs) → ArePairsOf (t ∷ ts) first ps → ArePairsOf ts ((first + 1) % 2 ^ 64) qs
order_behind ts first t ps qs gone h = record {
  small = omega arith;
  same = λ f.
      let ts_pairs = pairs_from ((first + 1) % 2 ^ 64) ts in
      let one = sum_by-cons f (pair_with t first) qs in
      let two = sum_by-cons f (pair_with t first) ts_pairs in
      let less = gone f in
      let was = h.same f in
      omega (arith, one, two, less, was);
}
