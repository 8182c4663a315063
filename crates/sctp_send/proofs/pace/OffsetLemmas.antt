-- Offsets that pass a test, listed one behind the other: cut into parts, and as indexes that rise.
use Rattle.std.proofs.Common.{inl, inr, ◌≡◌, ℕ, zero, suc, ◌+◌, ◌-◌, ◌<◌, ◌≤◌, ◌∙◌, List, [], ◌∷◌, ◌++◌, length, map, get_or, Bool, true, false, refl, sym, ap, subst, arith, append-nil, append_assoc}
use Rattle.std.specs.Prelude.{nat_le, nat_lt, ◌&&◌, ◌||◌, ◌==◌, if◌then◌else◌, ◌⊎◌}
use Rattle.std.specs.List.{list_any, All, AllByRecursion}
use Rattle.std.proofs.lemmas.List.{map-append}
use Rattle.std.proofs.lemmas.List.Elements.{All-from_recursion}
use Rattle.std.proofs.lemmas.Bool.{cases_lt}
use Rattle.std.proofs.lemmas.Bool.Decides.{nat_tests}
use Rattle.sctp_send.specs.FillAnswers.{AreRising}
use Rattle.sctp_send.specs.inner.Testing.{index_of, offsets_that}

-- ---- offsets that pass

pub offsets_joined : (t : ℕ → Bool) (i a b : ℕ) → offsets_that t i (a + b) ≡ offsets_that t i a ++ offsets_that t (i + a) b
offsets_joined t i zero b = let one : 0 + b ≡ b = omega arith in let two : i + 0 ≡ i = omega arith in rw (one, two) refl
offsets_joined t i (suc a) b =
    let one : suc a + b ≡ suc (a + b) = omega arith in
    let two : i + suc a ≡ suc i + a = omega arith in
    rw (one, two, offsets_joined t (suc i) a b) (by_test (t i))
  where
    by_test : (c : Bool) → (if c then i ∷ (offsets_that t (suc i) a ++ offsets_that t (suc i + a) b) else (offsets_that t (suc i) a ++ offsets_that t (suc i + a) b))
        ≡ (if c then i ∷ offsets_that t (suc i) a else offsets_that t (suc i) a) ++ offsets_that t (suc i + a) b
    by_test true = refl
    by_test false = refl

pub offsets_same : (t u : ℕ → Bool) (i n : ℕ) → ((k : ℕ) → i ≤ k → k < i + n → t k ≡ u k) → offsets_that t i n ≡ offsets_that u i n
offsets_same t u i zero same = refl
offsets_same t u i (suc n) same = rw (same i (omega arith) (omega arith), offsets_same t u (suc i) n (λ k lo hi. same k (omega (arith, lo)) (omega (arith, hi)))) refl

pub offsets_none : (t : ℕ → Bool) (i n : ℕ) → ((k : ℕ) → i ≤ k → k < i + n → t k ≡ false) → offsets_that t i n ≡ []
offsets_none t i zero off = refl
offsets_none t i (suc n) off = rw (off i (omega arith) (omega arith)) (offsets_none t (suc i) n (λ k lo hi. off k (omega (arith, lo)) (omega (arith, hi))))

-- up to an offset, and from it on
pub offsets_split : (t : ℕ → Bool) (i m n : ℕ) → i ≤ m → m ≤ n → offsets_that t i (n - i) ≡ offsets_that t i (m - i) ++ offsets_that t m (n - m)
offsets_split t i m n lo hi =
    let many : n - i ≡ (m - i) + (n - m) = omega (arith, lo, hi) in
    let at : i + (m - i) ≡ m = omega (arith, lo) in
    ap (offsets_that t i) many ∙ offsets_joined t i (m - i) (n - m) ∙ ap (λ (k : ℕ). offsets_that t i (m - i) ++ offsets_that t k (n - m)) at

-- one offset more
pub offsets_more : (t : ℕ → Bool) (i at : ℕ) → i ≤ at → offsets_that t i (at + 1 - i) ≡ offsets_that t i (at - i) ++ (if t at then at ∷ [] else [])
offsets_more t i at lo = let one : at + 1 - at ≡ suc 0 = omega arith in offsets_split t i at (at + 1) lo (omega arith) ∙ ap (λ (n : ℕ). offsets_that t i (at - i) ++ offsets_that t at n) one

-- all of them, cut in two
pub offsets_cut : (t : ℕ → Bool) (m n : ℕ) → m ≤ n → offsets_that t 0 n ≡ offsets_that t 0 m ++ offsets_that t m (n - m)
offsets_cut t m n le =
    let many : n ≡ m + (n - m) = omega (arith, le) in
    let at : 0 + m ≡ m = omega arith in
    ap (offsets_that t 0) many ∙ offsets_joined t 0 m (n - m) ∙ ap (λ (k : ℕ). offsets_that t 0 m ++ offsets_that t k (n - m)) at

-- up to one, and from it on up to the last that may pass
pub offsets_all : (t : ℕ → Bool) (m n : ℕ) → ((k : ℕ) → n ≤ k → t k ≡ false) → offsets_that t 0 m ++ offsets_that t m (n - m) ≡ offsets_that t 0 n
offsets_all t m n off = elim (cases_lt n m) [
  | inl past ↦
      let none : n - m ≡ 0 = omega (arith, past) in
      let rest = offsets_none t n (m - n) (λ k lo hi. off k lo) in
      ap (λ (k : ℕ). offsets_that t 0 m ++ offsets_that t m k) none ∙ append-nil (offsets_that t 0 m) ∙ offsets_cut t n m (omega (arith, past))
      ∙ ap (λ (ks : List ℕ). offsets_that t 0 n ++ ks) rest ∙ append-nil (offsets_that t 0 n)
  | inr le ↦ sym (offsets_cut t m n le)
]

-- as far as it goes, to a last one or to where none passes
pub offsets_upto : (t : ℕ → Bool) (i at to end : ℕ) → i ≤ at → (at < to → end ≤ at) → (i < at → at ≤ to) → ((k : ℕ) → end ≤ k → t k ≡ false) → offsets_that t i (at - i) ≡ offsets_that t i (to - i)
offsets_upto t i at to end lo past within off = elim (cases_lt at to) [
  | inl less ↦
      let rest = offsets_none t at (to - at) (λ k le lt. off k (omega (arith, le, past less))) in
      sym (offsets_split t i at to lo (omega (arith, less)) ∙ ap (λ (ks : List ℕ). offsets_that t i (at - i) ++ ks) rest ∙ append-nil (offsets_that t i (at - i)))
  | inr le ↦
      let same : at - i ≡ to - i = by_start (cases_lt i at) le in
      ap (offsets_that t i) same
]
  where
    by_start : (i < at) ⊎ (at ≤ i) → to ≤ at → at - i ≡ to - i
    by_start (inl lt) le = let w = within lt in omega (arith, le, w)
    by_start (inr le) low = omega (arith, le, low)

-- a list of indexes, with those of further offsets
pub listed_on : (c : ℕ) (old : List ℕ) (was is : List ℕ) (ks ms ns : List ℕ) → was ≡ old ++ map (index_of c) ks → is ≡ was ++ map (index_of c) ms → ns ≡ ks ++ ms → is ≡ old ++ map (index_of c) ns
listed_on c old was is ks ms ns before now all =
    now ∙ ap (λ (js : List ℕ). js ++ map (index_of c) ms) before ∙ append_assoc old (map (index_of c) ks) (map (index_of c) ms)
    ∙ ap (λ (js : List ℕ). old ++ js) (sym (map-append (index_of c) ks ms)) ∙ ap (λ (js : List ℕ). old ++ map (index_of c) js) (sym all)

-- ---- what they are in a list

-- as indexes
abbrev pub indexes : (cum : ℕ) → List ℕ → List ℕ
indexes c ks = map (λ k. suc (c + k)) ks

pub any_offsets : (c : ℕ) (t : ℕ → Bool) (i n k : ℕ) → list_any (λ j. j == suc (c + k)) (indexes c (offsets_that t i n)) ≡ ((nat_le i k && nat_lt k (i + n)) && t k)
any_offsets c t i zero k = let off : (nat_le i k && nat_lt k (i + 0)) ≡ false = grind (arith, nat_tests) in rw off refl
any_offsets c t i (suc n) k = by_place (i == k) refl (any_offsets c t (suc i) n k)
  where
    all_or : (b : Bool) → ((b && true) || false) ≡ b
    all_or true = refl
    all_or false = refl

    none_or : (b d : Bool) → ((b && false) || d) ≡ d
    none_or true d = refl
    none_or false d = refl

    by_test : (b : Bool) → list_any (λ j. j == suc (c + k)) (indexes c (if b then i ∷ offsets_that t (suc i) n else offsets_that t (suc i) n))
        ≡ ((b && (suc (c + i) == suc (c + k))) || list_any (λ j. j == suc (c + k)) (indexes c (offsets_that t (suc i) n)))
    by_test true = refl
    by_test false = refl

    by_place : (b : Bool) → (i == k) ≡ b → list_any (λ j. j == suc (c + k)) (indexes c (offsets_that t (suc i) n)) ≡ ((nat_le (suc i) k && nat_lt k (suc i + n)) && t k)
        → list_any (λ j. j == suc (c + k)) (indexes c (offsets_that t i (suc n))) ≡ ((nat_le i k && nat_lt k (i + suc n)) && t k)
    by_place true is rest =
        let same : i ≡ k = grind (arith, nat_tests) in
        let here : (suc (c + i) == suc (c + k)) ≡ true = grind (arith, nat_tests) in
        let past : (nat_le (suc i) k && nat_lt k (suc i + n)) ≡ false = grind (arith, nat_tests) in
        let within : (nat_le i k && nat_lt k (i + suc n)) ≡ true = grind (arith, nat_tests) in
        by_test (t i) ∙ rw (here, rest, past, within) (all_or (t i) ∙ ap t same)
    by_place false is rest =
        let other : (suc (c + i) == suc (c + k)) ≡ false = grind (arith, nat_tests) in
        let same : (nat_le (suc i) k && nat_lt k (suc i + n)) ≡ (nat_le i k && nat_lt k (i + suc n)) = grind (arith, nat_tests) in
        by_test (t i) ∙ rw (other, rest, same) (none_or (t i) ((nat_le i k && nat_lt k (i + suc n)) && t k))

pub offsets_rising : (c : ℕ) (t : ℕ → Bool) (i n b : ℕ) → b ≤ c + i → AreRising b (indexes c (offsets_that t i n))
offsets_rising c t i zero b le = tt
offsets_rising c t i (suc n) b le = by_test (t i) (λ a low. offsets_rising c t (suc i) n a low)
  where
    by_test : (on : Bool) → ((a : ℕ) → a ≤ c + suc i → AreRising a (indexes c (offsets_that t (suc i) n))) → AreRising b (indexes c (if on then i ∷ offsets_that t (suc i) n else offsets_that t (suc i) n))
    by_test true further = (omega (arith, le), further (suc (c + i)) (omega arith))
    by_test false further = further b (omega (arith, le))

pub offsets_within : (c : ℕ) (t : ℕ → Bool) (i n most : ℕ) → c + i + n ≤ most → AllByRecursion (λ j. j ≤ most) (indexes c (offsets_that t i n))
offsets_within c t i zero most le = tt
offsets_within c t i (suc n) most le = by_test (t i) (offsets_within c t (suc i) n most (omega (arith, le)))
  where
    by_test : (on : Bool) → AllByRecursion (λ j. j ≤ most) (indexes c (offsets_that t (suc i) n)) → AllByRecursion (λ j. j ≤ most) (indexes c (if on then i ∷ offsets_that t (suc i) n else offsets_that t (suc i) n))
    by_test true rest = (omega (arith, le), rest)
    by_test false rest = rest

pub offsets_fit : (b c : ℕ) (t : ℕ → Bool) (i n : ℕ) → ((k : ℕ) → k < i + n → index_of b k ≡ suc (c + k)) → map (index_of b) (offsets_that t i n) ≡ indexes c (offsets_that t i n)
offsets_fit b c t i zero same = refl
offsets_fit b c t i (suc n) same = by_test (t i) (offsets_fit b c t (suc i) n (λ k lt. same k (omega (arith, lt))))
  where
    by_test : (on : Bool) → map (index_of b) (offsets_that t (suc i) n) ≡ indexes c (offsets_that t (suc i) n)
        → map (index_of b) (if on then i ∷ offsets_that t (suc i) n else offsets_that t (suc i) n) ≡ indexes c (if on then i ∷ offsets_that t (suc i) n else offsets_that t (suc i) n)
    by_test true rest = let first = same i (omega arith) in rw (first, rest) refl
    by_test false rest = rest

-- ---- the highest

-- the last of numbers that rise from above one on; that one, if there are none
abbrev last_of : (above : ℕ) → List ℕ → ℕ
last_of above [] = above
last_of above (i ∷ is) = last_of i is

last_read : (i d : ℕ) (is : List ℕ) → get_or (i ∷ is) (length is) d ≡ last_of i is
last_read i d [] = refl
last_read i d (j ∷ is) = last_read j d is

rising_upto : (i : ℕ) (is : List ℕ) → AreRising i is → AllByRecursion (λ j. j ≤ last_of i is) (i ∷ is)
rising_upto i [] rising = (omega arith, tt)
rising_upto i (j ∷ is) rising = let rest = rising_upto j is rising.1 in (omega (arith, rest.0, rising.0), rest)

-- what rises is no more than its last
pub rising_below : (above last d : ℕ) (is : List ℕ) → 0 < length is → last ≡ get_or is (length is - 1) d → AreRising above is → All (λ i. i ≤ last) is
rising_below above last d [] some at rising = absurd (omega (arith, some))
rising_below above last d (i ∷ is) some at rising =
    let one : suc (length is) - 1 ≡ length is = omega arith in
    let end : last ≡ last_of i is = at ∙ ap (λ (n : ℕ). get_or (i ∷ is) n d) one ∙ last_read i d is in
    All-from_recursion (λ j. j ≤ last) (i ∷ is) (subst (λ (n : ℕ). AllByRecursion (λ j. j ≤ n) (i ∷ is)) (sym end) (rising_upto i is rising.1))

pub none_below : (most : ℕ) (is : List ℕ) → length is ≡ 0 → All (λ i. i ≤ most) is
none_below most [] none = All-from_recursion (λ i. i ≤ most) [] tt
none_below most (i ∷ is) none = absurd (omega (arith, none))
