-- A line is cut at its first space, and its words are those that the spaces part.
use Rattle.std.proofs.Common.{◌≡◌, ◌≢◌, ℕ, suc, ◌+◌, ◌<◌, ◌≤◌, ◌==◌, Bool, true, false, cond, inl, inr, List, [], ◌∷◌, length, take, drop, Some, None, refl, sym, ap, ◌∙◌, subst, arith, nat_lt}
use Rattle.std.specs.List.{position, position_or_len, count_by}
use Rattle.std.proofs.lemmas.Bool.{cases_Bool, cases_eq, ltb-true, ne_eqb}
use Rattle.std.proofs.lemmas.List.Elements.{All-cons, All-head, All-nil, All-tail}
use Rattle.std.specs.Prelude.{All}
use Rattle.std.proofs.lemmas.List.Sums.{sum_by-cons}
use Rattle.std.proofs.Math.Numerals.{one-add}
use Rattle.sctp_text.specs.SpacedWords.{spaced, onto_first, words_of, words_left, AreItsWords}
use Rattle.sctp_text.specs.declared.limits.TheConstants.{SPACE}

-- there is always a first word
pub first_and_others : (xs : List ℕ) → (w : List ℕ) × (ws : List (List ℕ)) × (words_of xs ≡ w ∷ ws)
first_and_others [] = ([], [], refl)
first_and_others (x ∷ xs) =
    let (w, ws, is) = first_and_others xs in
    elim (cases_Bool (x == SPACE)) [
      | inl space ↦ ([], w ∷ ws, rw (space, is) refl)
      | inr other ↦ (x ∷ w, ws, rw (other, is) refl)
    ]

abbrev first_space : List ℕ → ℕ
first_space xs = position_or_len (λ x. x == SPACE) xs

cut_at : (xs : List ℕ) → first_space xs < length xs → words_of xs ≡ take (first_space xs) xs ∷ words_of (drop (suc (first_space xs)) xs)
cut_at [] lt = absurd (omega arith)
cut_at (x ∷ xs) lt =
    elim (cases_Bool (x == SPACE)) [
      | inl space ↦ rw space refl
      | inr other ↦
          let within : first_space xs < length xs = omega (arith, rw other at lt) in
          let rest = cut_at xs within in
          rw (other, one-add, rest) refl
    ]

uncut : (xs : List ℕ) → length xs ≤ first_space xs → words_of xs ≡ xs ∷ []
uncut [] le = refl
uncut (x ∷ xs) le =
    elim (cases_Bool (x == SPACE)) [
      | inl space ↦ absurd (omega (arith, rw space at le))
      | inr other ↦
          let beyond : length xs ≤ first_space xs = omega (arith, rw other at le) in
          let rest = uncut xs beyond in
          rw (other, rest) refl
    ]

-- the words, where the first space is at i
pub words_cut : (xs : List ℕ) (i : ℕ) → position (λ x. x == SPACE) xs ≡ Some i → words_of xs ≡ take i xs ∷ words_of (drop (i + 1) xs)
words_cut xs i found =
    elim (cases_Bool (nat_lt (first_space xs) (length xs))) [
      | inl within ↦
          let here : Some (first_space xs) ≡ Some i = rw within at found in
          let same : first_space xs ≡ i = cc in
          let on : i + 1 ≡ suc i = omega arith in
          rw (on, ← same) (cut_at xs (ltb-true _ _ within))
      | inr beyond ↦ let none = rw beyond at found in cc
    ]

-- the one word, where there is no space
pub words_whole : (xs : List ℕ) → position (λ x. x == SPACE) xs ≡ None → words_of xs ≡ xs ∷ []
words_whole xs none =
    elim (cases_Bool (nat_lt (first_space xs) (length xs))) [
      | inl within ↦ let found = rw within at none in cc
      | inr beyond ↦ uncut xs (grind (arith, beyond))
    ]

length-onto_first : (c : ℕ) (ws : List (List ℕ)) → 0 < length ws → length (onto_first c ws) ≡ length ws
length-onto_first c [] lt = absurd (omega arith)
length-onto_first c (w ∷ ws) lt = refl

-- one word more than there are spaces
pub length-words_of : (xs : List ℕ) → length (words_of xs) ≡ 1 + count_by (λ x. x == SPACE) xs
length-words_of [] = omega arith
length-words_of (x ∷ xs) =
    let rest = length-words_of xs in
    let counted = sum_by-cons (λ (y : ℕ). cond (y == SPACE) 1 0) x xs in
    elim (cases_Bool (x == SPACE)) [
      | inl space ↦ rw (counted, space) (omega (arith, rest))
      | inr other ↦ rw (counted, other, length-onto_first x (words_of xs) (omega (arith, rest))) (omega (arith, rest))
    ]

-- where a word is left the line hasn't ended
pub not_ended : (b : Bool) (xs : List ℕ) (ws : List (List ℕ)) → words_left b xs ≡ ws → 0 < length ws → b ≡ false
not_ended true xs ws is some = absurd (omega (arith, ap length is))
not_ended false xs ws is some = refl

-- ---- the words are those that the spaces part

abbrev HasNoSpace : List ℕ → Type 0
HasNoSpace w = All (λ c. c ≢ SPACE) w

spaced_again : (xs : List ℕ) → xs ≡ spaced (words_of xs)
spaced_again [] = refl
spaced_again (x ∷ xs) =
    let (w, ws, is) = first_and_others xs in
    let rest : xs ≡ spaced (w ∷ ws) = spaced_again xs ∙ ap spaced is in
    elim (cases_eq x SPACE) [
      | inl space ↦ rw (space, is) (ap (λ (ys : List ℕ). SPACE ∷ ys) rest)
      | inr other ↦ rw (ne_eqb x SPACE other, is) (ap (λ (ys : List ℕ). x ∷ ys) rest)
    ]

apart : (xs : List ℕ) → All HasNoSpace (words_of xs)
apart [] = All-cons HasNoSpace [] [] (All-nil (λ (c : ℕ). c ≢ SPACE)) (All-nil HasNoSpace)
apart (x ∷ xs) =
    let (w, ws, is) = first_and_others xs in
    let rest : All HasNoSpace (w ∷ ws) = subst (λ (vs : List (List ℕ)). All HasNoSpace vs) is (apart xs) in
    elim (cases_eq x SPACE) [
      | inl space ↦
          let here : words_of (x ∷ xs) ≡ [] ∷ w ∷ ws = rw (space, is) refl in
          subst (λ (vs : List (List ℕ)). All HasNoSpace vs) (sym here) (All-cons HasNoSpace [] (w ∷ ws) (All-nil (λ (c : ℕ). c ≢ SPACE)) rest)
      | inr other ↦
          let here : words_of (x ∷ xs) ≡ (x ∷ w) ∷ ws = rw (ne_eqb x SPACE other, is) refl in
          let word : HasNoSpace (x ∷ w) = All-cons (λ (c : ℕ). c ≢ SPACE) x w other (All-head HasNoSpace w ws rest) in
          subst (λ (vs : List (List ℕ)). All HasNoSpace vs) (sym here) (All-cons HasNoSpace (x ∷ w) ws word (All-tail HasNoSpace w ws rest))
    ]

pub its_words : (xs : List ℕ) → AreItsWords xs (words_of xs)
its_words xs = record { joined = spaced_again xs; apart = apart xs }
