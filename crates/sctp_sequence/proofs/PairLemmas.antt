-- What is among pairs, by what may be summed over them; and what is found at a rank.
use Rattle.std.proofs.Common.{◌≡◌, ℕ, zero, suc, ◌+◌, ◌*◌, ◌<◌, ◌≤◌, ◌^◌, List, [], ◌∷◌, length, get_or, Bool, true, false, inl, inr, refl, sym, ap, ◌∙◌, arith, subst}
use Rattle.std.specs.Prelude.{nat_lt, ◌==◌, ◌&&◌, if◌then◌else◌}
use Rattle.std.specs.List.{Contains, sum_by}
use Rattle.std.specs.List.Sorted.{IsPartitionPoint}
use Rattle.std.proofs.lemmas.Bool.{cases_lt}
use Rattle.std.proofs.lemmas.Bool.Decides.{nat_tests}
use Rattle.std.proofs.lemmas.List.{get_or_default}
use Rattle.std.proofs.lemmas.List.Sums.{sum_by-cons, get_or-le-sum_by}
use Rattle.sctp_sequence.specs.Pairs.{AreSame, IsFirstFrom, AreOrdered, IsRank, key}
use Rattle.sctp_sequence.specs.declared.pairs.Pair.{Pair}

-- what a search by halves finds
pub rank_found : (n i : ℕ) (ps : List Pair) → i ≤ length ps → IsPartitionPoint (λ p. nat_lt (key p) n ≡ true) (λ p. nat_lt (key p) n ≡ false) ps i → IsRank n ps i
rank_found n i ps within point = record {
  within = within;
  lower = λ k d lt. let on : nat_lt (key (get_or ps k d)) n ≡ true = point.0 k d (omega arith) lt in grind (arith, nat_tests);
  higher = λ k d low lt. let off : nat_lt (key (get_or ps k d)) n ≡ false = point.1 k d low lt in grind (arith, nat_tests);
}

-- ---- what is among pairs

-- two numbers as a pair
abbrev pub pair_with : ℕ → ℕ → Pair
pair_with a b = record { first = a; second = b }

-- one, where two numbers are those of a pair
abbrev is_pair : Pair → Pair → ℕ
is_pair p x = if (x.first == p.first) && (x.second == p.second) then 1 else 0

same_pair : (p x : Pair) → 0 < is_pair p x → x ≡ p
same_pair p x lt = by_tests (x.first == p.first) (x.second == p.second) refl refl lt
  where
    by_tests : (a b : Bool) → (x.first == p.first) ≡ a → (x.second == p.second) ≡ b → 0 < (if a && b then 1 else 0) → x ≡ p
    by_tests true true one two h = let first : x.first ≡ p.first = grind (arith, nat_tests) in let second : x.second ≡ p.second = grind (arith, nat_tests) in ap (λ (n : ℕ). pair_with n x.second) first ∙ ap (λ (n : ℕ). pair_with p.first n) second
    by_tests true false one two h = absurd (omega arith)
    by_tests false b one two h = absurd (omega arith)

own_pair : (p : Pair) → is_pair p p ≡ 1
own_pair p = let first : (p.first == p.first) ≡ true = grind (arith, nat_tests) in let second : (p.second == p.second) ≡ true = grind (arith, nat_tests) in rw (first, second) refl

-- where a sum is more than nothing some pair counts
some_counts : (f : Pair → ℕ) (xs : List Pair) (d : Pair) → 0 < sum_by f xs → (k : ℕ) × (k < length xs) × (0 < f (get_or xs k d))
some_counts f [] d lt = absurd (omega arith)
some_counts f (x ∷ xs) d lt = by_first (f x) refl (λ rest. some_counts f xs d rest)
  where
    by_first : (n : ℕ) → f x ≡ n → (0 < sum_by f xs → (k : ℕ) × (k < length xs) × (0 < f (get_or xs k d))) → (k : ℕ) × (k < length (x ∷ xs)) × (0 < f (get_or (x ∷ xs) k d))
    by_first (suc n) is rest = (0, omega arith, omega (arith, is))
    by_first zero is rest = let sum = sum_by-cons f x xs in let later = rest (omega (arith, sum, is, lt)) in (suc later.0, omega (arith, later.1), later.2)

-- what is among the ones is among the others
pub among : (p : Pair) (xs ys : List Pair) → AreSame xs ys → Contains ys p → Contains xs p
among p xs ys same there =
    let one : is_pair p (get_or ys there.0 p) ≡ 1 = ap (is_pair p) there.2 ∙ own_pair p in
    let some = get_or-le-sum_by (is_pair p) ys there.0 p there.1 in
    let found = some_counts (is_pair p) xs p (let all = same (is_pair p) in omega (arith, all, some, one)) in
    (found.0, found.1, same_pair p (get_or xs found.0 p) found.2)

-- both lists are equally long
pub as_many : (xs ys : List Pair) → AreSame xs ys → length xs ≡ length ys
as_many xs ys same = sym (each_one xs) ∙ same (λ p. 1) ∙ each_one ys
  where
    each_one : (ps : List Pair) → sum_by (λ p. 1) ps ≡ length ps
    each_one [] = refl
    each_one (p ∷ ps) = let more = sum_by-cons (λ q. 1) p ps in let rest = each_one ps in omega (arith, more, rest)

-- one that is first in both lists goes
pub without_first : (p : Pair) (xs ys : List Pair) → AreSame (p ∷ xs) (p ∷ ys) → AreSame xs ys
without_first p xs ys same f = let one = sum_by-cons f p xs in let two = sum_by-cons f p ys in let both = same f in omega (arith, one, two, both)

-- ---- what is found

-- a pair that is there is no lower than the one at its rank
no_lower : (n i : ℕ) (ps : List Pair) (q : Pair) → AreOrdered ps → IsRank n ps i → Contains ps q → n ≤ key q → (i < length ps) × (key (get_or ps i q) ≤ key q)
no_lower n i ps q h rank there le =
    let here : key (get_or ps there.0 q) ≡ key q = ap key there.2 in
    let low : i ≤ there.0 = elim (cases_lt there.0 i) [ inl lt ↦ absurd (let less = rank.lower there.0 q lt in omega (arith, less, here, le)) | inr ge ↦ ge ] in
    let more = h.order i there.0 q low there.1 in
    (omega (arith, low, there.1), omega (arith, more, here))

-- a pair that is there is at its rank
pub rank_there : (i : ℕ) (p : Pair) (ps qs : List Pair) → AreOrdered ps → IsRank (key p) ps i → AreSame ps qs → Contains qs p → (i < length ps) × (key (get_or ps i p) ≡ key p)
rank_there i p ps qs h rank same there =
    let found = no_lower (key p) i ps p h rank (among p ps qs same there) (omega arith) in
    let more = rank.higher i p (omega arith) found.0 in
    (found.0, omega (arith, more, found.1))

pub found_first : (n i : ℕ) (ps qs : List Pair) (p : Pair) → AreOrdered ps → IsRank (n * 2 ^ 64 + 0) ps i → i < length ps → p ≡ get_or ps i p → AreSame ps qs → IsFirstFrom n qs p
found_first n i ps qs p h rank lt read same =
    let small : p.second < 2 ^ 64 = subst (λ (q : Pair). q.second < 2 ^ 64) (sym read) (h.small i p lt).1 in
    let here : key p ≡ key (get_or ps i p) = ap key read in
    let over = rank.higher i p (omega arith) lt in
    let above : n ≤ p.first = omega (arith, over, here, small) in
    let least : (q : Pair) → Contains qs q → n ≤ q.first → (key p ≤ key q) × (q.second < 2 ^ 64) = λ q there le.
    let mine = among q ps qs same there in
    let found = no_lower (n * 2 ^ 64 + 0) i ps q h rank mine (omega (arith, le)) in
    let own : key p ≡ key (get_or ps i q) = ap key (read ∙ get_or_default ps i p q lt) in
    (omega (arith, own, found.1), subst (λ (x : Pair). x.second < 2 ^ 64) mine.2 (h.small mine.0 q mine.1).1) in
    record {
      there = among p qs ps (λ f. sym (same f)) (i, lt, sym read);
      above = above;
      first = λ q there le. let other = least q there le in let more = other.0 in let little = other.1 in omega (arith, more, little, small);
      second = λ q there is. let other = least q there (omega (arith, is, above)) in let more = other.0 in omega (arith, more, is);
    }

pub found_none : (n i : ℕ) (ps qs : List Pair) → AreOrdered ps → IsRank (n * 2 ^ 64 + 0) ps i → length ps ≤ i → AreSame ps qs → (q : Pair) → Contains qs q → q.first < n
found_none n i ps qs h rank all same q there =
    let mine = among q ps qs same there in
    let here : key (get_or ps mine.0 q) ≡ key q = ap key mine.2 in
    let less = rank.lower mine.0 q (omega (arith, mine.1, all)) in
    omega (arith, less, here)
