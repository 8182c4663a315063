-- What the sender's words say: which of several is there, what a search finds, how a sum changes.
use Rattle.std.proofs.Common.{◌≡◌, ℕ, zero, suc, ◌+◌, ◌%◌, ◌<◌, ◌≤◌, ◌⊎◌, inl, inr, List, [], ◌∷◌, ◌++◌, length, map, Bool, true, false, Option, Some, None, refl, ap, ◌∙◌, subst, arith}
use Rattle.std.specs.Prelude.{◌==◌, if◌then◌else◌, fold, find}
use Rattle.std.specs.Option.{option_or}
use Rattle.std.proofs.lemmas.Bool.Decides.{nat_tests}
use Rattle.sctp_model.specs.numbers.Lists.{Has}
use Rattle.sctp_model.specs.sender.Words.{when, first_there, some_passes, count_up, sum_below, lowest}

-- ---- what is there

pub when_there : {A : Type 0} (b : Bool) (x y : A) → when b x ≡ Some y → (b ≡ true) × (x ≡ y)
when_there true x y is = (refl, cc)
when_there false x y is = absurd (cc)

pub when_absent : {A : Type 0} (b : Bool) (x : A) → when b x ≡ None → b ≡ false
when_absent true x is = absurd (cc)
when_absent false x is = refl

-- of two, it is the first, or else the second
pub of_two : {A : Type 0} (o p : Option A) (x : A) → option_or o p ≡ Some x → (o ≡ Some x) ⊎ ((o ≡ None) × (p ≡ Some x))
of_two None p x is = inr (refl, is)
of_two (Some y) p x is = inl is

pub of_none : {A : Type 0} (o p : Option A) → option_or o p ≡ None → (o ≡ None) × (p ≡ None)
of_none None p is = (refl, is)
of_none (Some y) p is = absurd (cc)

-- among the answers to some values, the first one is an answer to one of them
pub answer_to : {A B : Type 0} (g : A → Option B) (xs : List A) (y : B) → first_there (map g xs) ≡ Some y → (x : A) × Has xs x × (g x ≡ Some y)
answer_to g [] y is = absurd (cc)
answer_to g (x ∷ xs) y is =
    elim (of_two (g x) (first_there (map g xs)) y is) [
      | inl here ↦ (x, inl refl, here)
      | inr later ↦ let r = answer_to g xs y later.1 in (r.0, inr r.1, r.2)
    ]

pub some_is : {A : Type 0} (test : A → Bool) (o : Option A) → some_passes test o ≡ true → (x : A) × (o ≡ Some x) × (test x ≡ true)
some_is test None is = absurd (cc)
some_is test (Some x) is = (x, refl, is)

-- what is found is of the list, and passes
pub found_is : {A : Type 0} (test : A → Bool) (xs : List A) (x : A) → find test xs ≡ Some x → Has xs x × (test x ≡ true)
found_is test [] x is = absurd (cc)
found_is test (y ∷ xs) x is = by_test (test y) refl is (λ later. found_is test xs x later)
  where
    by_test : (b : Bool) → test y ≡ b → (if b then Some y else find test xs) ≡ Some x → (find test xs ≡ Some x → Has xs x × (test x ≡ true)) → Has (y ∷ xs) x × (test x ≡ true)
    by_test true on here further = let same : y ≡ x = cc in (inl same, subst (λ (z : _). test z ≡ true) same on)
    by_test false off here further = let r = further here in (inr r.0, r.1)

-- ---- elements of two lists, one after the other

pub has_left : {A : Type 0} (xs ys : List A) (x : A) → Has xs x → Has (xs ++ ys) x
has_left [] ys x has = absurd has
has_left (y ∷ xs) ys x has = elim has [ inl e ↦ inl e | inr h ↦ inr (has_left xs ys x h) ]

pub has_right : {A : Type 0} (xs ys : List A) (x : A) → Has ys x → Has (xs ++ ys) x
has_right [] ys x has = has
has_right (y ∷ xs) ys x has = inr (has_right xs ys x has)

pub has_either : {A : Type 0} (xs ys : List A) (x : A) → Has (xs ++ ys) x → Has xs x ⊎ Has ys x
has_either [] ys x has = inr has
has_either (y ∷ xs) ys x has = elim has [ inl e ↦ inl (inl e) | inr h ↦ elim (has_either xs ys x h) [ inl a ↦ inl (inr a) | inr b ↦ inr b ] ]

-- ---- counting up

pub count_push : (i n : ℕ) → count_up i (suc n) ≡ count_up i n ++ (i + n) ∷ []
count_push i zero = let same : i + 0 ≡ i = omega arith in rw same refl
count_push i (suc n) = let next : suc i + n ≡ i + suc n = omega arith in ap (λ (xs : List ℕ). i ∷ xs) (rw next at (count_push (suc i) n))

pub length-count_up : (i n : ℕ) → length (count_up i n) ≡ n
length-count_up i zero = refl
length-count_up i (suc n) = ap suc (length-count_up (suc i) n)

pub fold-append : {A B : Type 0} (f : B → A → B) (a : B) (xs ys : List A) → fold f a (xs ++ ys) ≡ fold f (fold f a xs) ys
fold-append f a [] ys = refl
fold-append f a (x ∷ xs) ys = fold-append f (f a x) xs ys

-- remainders lie below what was divided by
pub remainders_below : (t n s : ℕ) (ds : List ℕ) → 0 < n → Has (map (λ d. (t + d) % n) ds) s → s < n
remainders_below t n s [] some has = absurd has
remainders_below t n s (d ∷ ds) some has =
    elim has [
      | inl here ↦ let low : (t + d) % n < n = omega arith in subst (λ (x : ℕ). x < n) here low
      | inr later ↦ remainders_below t n s ds some later
    ]

-- as many in turn as there are
pub in_turn : (t n s : ℕ) → Has (map (λ d. (t + d) % n) (count_up 0 n)) s → s < n
in_turn t zero s has = absurd has
in_turn t (suc n) s has = remainders_below t (suc n) s (count_up 0 (suc n)) (omega arith) has

-- ---- the lowest that passes

pub record IsLowest (test : ℕ → Bool) (n i : ℕ) : Type 0 where
  pub some : 0 < i
  pub within : i ≤ n
  pub passes : test i ≡ true
  pub first : (j : ℕ) → 0 < j → j < i → test j ≡ false

pub none_lowest : (test : ℕ → Bool) (n : ℕ) → lowest test n ≡ None → (j : ℕ) → 0 < j → j ≤ n → test j ≡ false
none_lowest test zero is j lo hi = absurd (omega arith)
none_lowest test (suc n) is j lo hi = by_last (j == suc n) refl (none_lowest test n parts.0 j lo)
  where
    parts : (lowest test n ≡ None) × (when (test (suc n)) (suc n) ≡ None)
    parts = of_none (lowest test n) (when (test (suc n)) (suc n)) is

    by_last : (b : Bool) → (j == suc n) ≡ b → (j ≤ n → test j ≡ false) → test j ≡ false
    by_last true last further = let same : j ≡ suc n = grind (arith, nat_tests) in ap test same ∙ when_absent (test (suc n)) (suc n) parts.1
    by_last false other further = further (let ne : j < suc n = grind (arith, nat_tests) in omega arith)

pub lowest_is : (test : ℕ → Bool) (n i : ℕ) → lowest test n ≡ Some i → IsLowest test n i
lowest_is test zero i is = absurd (cc)
lowest_is test (suc n) i is =
    elim (of_two (lowest test n) (when (test (suc n)) (suc n)) i is) [
      | inl before ↦ let r = lowest_is test n i before in let hi = r.within in record { some = r.some; within = omega arith; passes = r.passes; first = r.first }
      | inr last ↦ let on = when_there (test (suc n)) (suc n) i last.1 in
          subst (λ (x : ℕ). IsLowest test (suc n) x) on.1 (record { some = omega arith; within = omega arith; passes = on.0; first = λ j lo hi. none_lowest test n last.0 j lo (omega arith) })
    ]

-- if none passes, none is found
pub lowest_none : (test : ℕ → Bool) (n : ℕ) → ((j : ℕ) → 0 < j → j ≤ n → test j ≡ false) → lowest test n ≡ None
lowest_none test zero off = refl
lowest_none test (suc n) off = rw (lowest_none test n (λ j lo hi. off j lo (omega arith)), off (suc n) (omega arith) (omega arith)) refl

-- what is the lowest is found
pub lowest_found : (test : ℕ → Bool) (n i : ℕ) → IsLowest test n i → lowest test n ≡ Some i
lowest_found test zero i h = let lo = h.some in let hi = h.within in absurd (omega arith)
lowest_found test (suc n) i h = by_last (i == suc n) refl (λ le. lowest_found test n i (record { some = h.some; within = le; passes = h.passes; first = h.first }))
  where
    by_last : (b : Bool) → (i == suc n) ≡ b → (i ≤ n → lowest test n ≡ Some i) → lowest test (suc n) ≡ Some i
    by_last true last further =
        let same : i ≡ suc n = grind (arith, nat_tests) in
        let on : test (suc n) ≡ true = rw same at h.passes in
        rw (lowest_none test n (λ j lo hi. h.first j lo (omega arith)), on, same) refl
    by_last false other further = let hi = h.within in let ne : i < suc n = grind (arith, nat_tests) in rw (further (omega arith)) refl

-- ---- sums

pub sum-zero : (f : ℕ → ℕ) (n : ℕ) → ((j : ℕ) → f j ≡ 0) → sum_below f n ≡ 0
sum-zero f zero none = refl
sum-zero f (suc n) none = let here = none n in let rest = sum-zero f n none in omega arith

pub sum-same : (f g : ℕ → ℕ) (n : ℕ) → ((j : ℕ) → j < n → f j ≡ g j) → sum_below f n ≡ sum_below g n
sum-same f g zero same = refl
sum-same f g (suc n) same = let here = same n (omega arith) in let rest = sum-same f g n (λ j lt. same j (omega arith)) in omega arith

-- two sums of which one summand differs
pub sum-changed : (f g : ℕ → ℕ) (n s : ℕ) → s < n → ((j : ℕ) → (j ≡ s → ⊥) → f j ≡ g j) → sum_below g n + f s ≡ sum_below f n + g s
sum-changed f g zero s lt same = absurd (omega arith)
sum-changed f g (suc n) s lt same = by_test (s == n) refl (λ less. sum-changed f g n s less same)
  where
    by_test : (b : Bool) → (s == n) ≡ b → (s < n → sum_below g n + f s ≡ sum_below f n + g s) → sum_below g n + g n + f s ≡ sum_below f n + f n + g s
    by_test true on further =
        let here : s ≡ n = grind (arith, nat_tests) in
        let rest = sum-same f g n (λ j less. same j (λ e. omega arith)) in
        let one = ap f here in
        let two = ap g here in
        omega arith
    by_test false on further =
        let apart : (n ≡ s → ⊥) = λ e. let no_more : (s == n) ≡ true = grind (arith, nat_tests) in absurd (cc) in
        let here = same n apart in
        let less : s < n = grind (arith, nat_tests) in
        let rest = further less in
        omega arith
