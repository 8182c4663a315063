-- Bits in words of 64: one is put, the next one is found.
use Rattle.std.proofs.Common.{◌≡◌, ℕ, zero, suc, ◌+◌, ◌-◌, ◌*◌, ◌/◌, ◌%◌, ◌^◌, ◌<◌, ◌≤◌, min, List, [], ◌∷◌, length, get_or, set, replicate, Option, None, Some, inl, inr, refl, sym, ◌∙◌, ap, arith, w64}
use Rattle.std.specs.Prelude.{bit_and}
use Rattle.std.specs.Int.{bit_at, trailing_zeros}
use Rattle.std.proofs.lemmas.Bool.{cases_eq, cases_lt}
use Rattle.std.proofs.lemmas.List.{get_or-set_same, get_or-set_other, length-replicate}
use Rattle.std.proofs.lemmas.Nat.{and_le_l}
use Rattle.std.proofs.lemmas.Nat.Bits.{bit_at_and, bit_at_mask_inside, bit_at_mask_below, bit_at-zero, bit_at-lt, bit_at-trailing_zeros}
use Rattle.sctp_recv.specs.inner.Bits.{word_at, bit_in, BitFrom, NextBit, AreTops}

-- ---- one word

-- MAX << from
abbrev mask : ℕ → ℕ
mask from = 2 ^ 64 - 2 ^ from

masked_above : (word from j : ℕ) → from ≤ j → j < 64 → bit_at (bit_and word (mask from)) j ≡ bit_at word j
masked_above word from j le lt =
    let both = bit_at_and word (mask from) j in
    let one = bit_at_mask_inside from 64 j le lt in
    let small = bit_at-lt word j in
    omega (arith, both, one, small)

masked_below : (word from j : ℕ) → j < from → bit_at (bit_and word (mask from)) j ≡ 0
masked_below word from j lt =
    let both = bit_at_and word (mask from) j in
    let none = bit_at_mask_below from 64 j lt in
    omega (arith, both, none)

-- what is left of a word has no bit
pub none_from : (word from left : ℕ) → left ≡ bit_and word (mask from) → left ≡ 0 → BitFrom word from None
none_from word from left is none = λ j le lt.
    let all : bit_at left j ≡ bit_at word j = ap (λ (n : ℕ). bit_at n j) is ∙ masked_above word from j le lt in
    let no : bit_at left j ≡ 0 = ap (λ (n : ℕ). bit_at n j) none ∙ bit_at-zero j in
    sym all ∙ no

-- or its lowest bit is the first
pub first_from : (word from left i : ℕ) → word < 2 ^ 64 → left ≡ bit_and word (mask from) → 0 < left → i ≡ trailing_zeros w64 left → BitFrom word from (Some i)
first_from word from left i small is some at =
    let below = and_le_l word (mask from) in
    let t = bit_at-trailing_zeros w64 left some (omega (arith, small, is, below)) in
    let within : i < 64 = let lt = t.0 in omega (arith, lt, at) in
    let here : bit_at left i ≡ 1 = ap (λ (n : ℕ). bit_at left n) at ∙ t.1 in
    let kept : bit_at left i ≡ bit_at (bit_and word (mask from)) i = ap (λ (n : ℕ). bit_at n i) is in
    let above : from ≤ i = elim (cases_lt i from) [
      | inl lt ↦ absurd (let no = masked_below word from i lt in omega (arith, here, kept, no))
      | inr le ↦ le
    ] in
    record {
      above = above;
      within = within;
      set = let same = masked_above word from i above within in omega (arith, here, kept, same);
      first = λ j le lt.
          let no : bit_at left j ≡ 0 = t.2 j (omega (arith, lt, at)) in
          let same : bit_at left j ≡ bit_at word j = ap (λ (n : ℕ). bit_at n j) is ∙ masked_above word from j le (omega (arith, lt, within)) in
          sym same ∙ no;
    }

-- ---- words

pub past_words : (ws : List ℕ) (k : ℕ) → length ws ≤ k → word_at ws k ≡ 0
past_words [] k le = refl
past_words (w ∷ ws) zero le = absurd (omega arith)
past_words (w ∷ ws) (suc k) le = past_words ws k (omega arith)

pub past_bits : (ws : List ℕ) (j : ℕ) → length ws ≤ j / 64 → bit_in ws j ≡ 0
past_bits ws j le = ap (λ (n : ℕ). bit_at n (j % 64)) (past_words ws (j / 64) le) ∙ bit_at-zero (j % 64)

-- what is read of a word
pub read_word : (ws : List ℕ) (k w : ℕ) → k < length ws → w ≡ get_or ws k w → w ≡ word_at ws k
read_word [] k w lt is = absurd (omega arith)
read_word (x ∷ ws) zero w lt is = is
read_word (x ∷ ws) (suc k) w lt is = read_word ws k w (omega arith) is

zero_words : (n k : ℕ) → word_at (replicate n 0) k ≡ 0
zero_words zero k = refl
zero_words (suc n) zero = refl
zero_words (suc n) (suc k) = zero_words n k

pub zero_bits : (ws : List ℕ) (n j : ℕ) → ws ≡ replicate n 0 → bit_in ws j ≡ 0
zero_bits ws n j is = ap (λ (n : ℕ). bit_at n (j % 64)) (ap (λ (vs : List ℕ). word_at vs (j / 64)) is ∙ zero_words n (j / 64)) ∙ bit_at-zero (j % 64)

-- words without a bit have none above them
pub zero_tops : (ws ts : List ℕ) (n m : ℕ) → ws ≡ replicate n 0 → ts ≡ replicate m 0 → n ≤ 1024 → m ≤ 1024 → n ≤ m * 64 → AreTops ws ts
zero_tops ws ts n m words tops few fewer fits = record {
  few = let long = ap (λ (vs : List ℕ). length vs) words ∙ length-replicate n 0 in omega (arith, long, few);
  fewer = let high = ap (λ (vs : List ℕ). length vs) tops ∙ length-replicate m 0 in omega (arith, high, fewer);
  fits =
      let long : length ws ≡ n = ap (λ (vs : List ℕ). length vs) words ∙ length-replicate n 0 in
      let high : length ts ≡ m = ap (λ (vs : List ℕ). length vs) tops ∙ length-replicate m 0 in
      omega (arith, long, high, fits);
  each = λ k.
      let none : word_at ws k ≡ 0 = ap (λ (vs : List ℕ). word_at vs k) words ∙ zero_words n k in
      let no = zero_bits ts m k tops in
      omega (arith, none, no);
}

-- ---- one bit is put

-- A bit of words is put: the number's own, and no other.
pub record IsPut (old new : List ℕ) (number bit : ℕ) : Type 0 where
  pub size : length new ≡ length old
  pub here : bit_in new number ≡ bit
  pub others : (j : ℕ) → (j ≡ number → ⊥) → bit_in new j ≡ bit_in old j
  pub words : (k : ℕ) → (k ≡ number / 64 → ⊥) → word_at new k ≡ word_at old k

pub bit_put : (old new : List ℕ) (number x bit : ℕ) → number / 64 < length old → new ≡ set old (number / 64) x → length new ≡ length old → bit_at x (number % 64) ≡ bit
    → ((j : ℕ) → j < 64 → (j ≡ number % 64 → ⊥) → bit_at x j ≡ bit_at (word_at old (number / 64)) j) → IsPut old new number bit
bit_put old new number x bit lt is size own rest = record {
  size = size;
  here = ap (λ (n : ℕ). bit_at n (number % 64)) there ∙ own;
  words = words;
  others = λ j apart. elim (cases_eq (j / 64) (number / 64)) [
    | inl same ↦
        let place : j % 64 ≡ number % 64 → ⊥ = λ e. apart (omega (arith, e, same)) in
        let word : word_at new (j / 64) ≡ x = ap (λ (k : ℕ). word_at new k) same ∙ there in
        ap (λ (n : ℕ). bit_at n (j % 64)) word ∙ rest (j % 64) (omega arith) place ∙ ap (λ (k : ℕ). bit_at (word_at old k) (j % 64)) (sym same)
    | inr other ↦ ap (λ (n : ℕ). bit_at n (j % 64)) (words (j / 64) other)
  ];
}
  where
    there : word_at new (number / 64) ≡ x
    there = ap (λ (ws : List ℕ). word_at ws (number / 64)) is ∙ get_or-set_same old (number / 64) x 0 lt

    words : (k : ℕ) → (k ≡ number / 64 → ⊥) → word_at new k ≡ word_at old k
    words k apart = ap (λ (ws : List ℕ). word_at ws k) is ∙ get_or-set_other old (number / 64) k x 0 apart

-- with the bit above its word
pub tops_put : (ws vs ts us : List ℕ) (number bit top : ℕ) → AreTops ws ts → IsPut ws vs number bit → top ≡ min 1 (word_at vs (number / 64)) → IsPut ts us (number / 64) top → AreTops vs us
tops_put ws vs ts us number bit top h p is q = record {
  few = omega (arith, h.few, p.size);
  fewer = omega (arith, h.fewer, q.size);
  fits = omega (arith, h.fits, p.size, q.size);
  each = λ k. elim (cases_eq k (number / 64)) [
    | inl same ↦ ap (λ (n : ℕ). bit_in us n) same ∙ q.here ∙ is ∙ ap (λ (n : ℕ). min 1 (word_at vs n)) (sym same)
    | inr other ↦ q.others k other ∙ h.each k ∙ ap (λ (n : ℕ). min 1 n) (sym (p.words k other))
  ];
}

-- ---- the next one is found

-- none of the numbers in between
abbrev pub IsPassed : List ℕ → (from number : ℕ) → Type 0
IsPassed ws from number = (j : ℕ) → from ≤ j → j < number → bit_in ws j ≡ 0

-- the rest of a word is passed
pub word_passed : (ws : List ℕ) (from number at word place next : ℕ) → IsPassed ws from number → at ≡ number / 64 → word ≡ word_at ws at → place ≡ number % 64 → BitFrom word place None → next ≡ (at + 1) * 64 → IsPassed ws from next
word_passed ws from number at word place next before here is low none behind = λ j le lt. elim (cases_lt j number) [
  | inl less ↦ before j le less
  | inr more ↦
      let same : j / 64 ≡ at = omega (arith, lt, more, here, behind) in
      ap (λ (k : ℕ). bit_at (word_at ws k) (j % 64)) same ∙ ap (λ (n : ℕ). bit_at n (j % 64)) (sym is) ∙ none (j % 64) (omega (arith, same, more, here, low)) (omega arith)
]

-- a bit of the word is the next
pub word_found : (ws : List ℕ) (from number at word place i found : ℕ) → from ≤ number → IsPassed ws from number → at ≡ number / 64 → at < length ws → word ≡ word_at ws at → place ≡ number % 64 → BitFrom word place (Some i) → found ≡ at * 64 + i
    → NextBit ws from (Some found)
word_found ws from number at word place i found le before here lt is low h sum =
    let within = h.within in
    let word_of : found / 64 ≡ at = omega (arith, within, sum) in
    let bit_of : found % 64 ≡ i = omega (arith, within, sum) in
    let above = h.above in
    record {
      above = omega (arith, le, here, low, above, sum);
      within = omega (arith, word_of, lt);
      set = ap (λ (k : ℕ). bit_at (word_at ws k) (found % 64)) word_of ∙ ap (λ (n : ℕ). bit_at n (found % 64)) (sym is) ∙ ap (λ (n : ℕ). bit_at word n) bit_of ∙ h.set;
      first = λ j lo hi. elim (cases_lt j number) [
        | inl less ↦ before j lo less
        | inr more ↦
            let same : j / 64 ≡ at = omega (arith, hi, more, here, within, sum) in
            ap (λ (k : ℕ). bit_at (word_at ws k) (j % 64)) same ∙ ap (λ (n : ℕ). bit_at n (j % 64)) (sym is) ∙ h.first (j % 64) (omega (arith, same, more, here, low)) (omega (arith, same, hi, within, sum))
      ];
    }

-- behind the last word there is none
pub all_passed : (ws : List ℕ) (from number : ℕ) → IsPassed ws from number → length ws ≤ number / 64 → NextBit ws from None
all_passed ws from number before le = λ j lo. elim (cases_lt j number) [
  | inl less ↦ before j lo less
  | inr more ↦ past_bits ws j (omega (arith, more, le))
]

-- words between have no bit, where those above say so
between : (ws ts : List ℕ) (at j : ℕ) → AreTops ws ts → at ≤ j / 64 → bit_in ts (j / 64) ≡ 0 → bit_in ws j ≡ 0
between ws ts at j h le none =
    let top = h.each (j / 64) in
    let word : word_at ws (j / 64) ≡ 0 = omega (arith, top, none) in
    ap (λ (n : ℕ). bit_at n (j % 64)) word ∙ bit_at-zero (j % 64)

-- no word from a place on has a bit
pub tops_none : (ws ts : List ℕ) (at : ℕ) → AreTops ws ts → NextBit ts at None → NextBit ws (at * 64) None
tops_none ws ts at h above = λ j lo. between ws ts at j h (omega (arith, lo)) (above (j / 64) (omega (arith, lo)))

-- the first word that has one
pub tops_some : (ws ts : List ℕ) (at further : ℕ) → AreTops ws ts → NextBit ts at (Some further) → (further < length ws) × IsPassed ws (at * 64) (further * 64) × (0 < word_at ws further)
tops_some ws ts at further h found =
    let top = h.each further in
    let set = found.set in
    let some : 0 < word_at ws further = omega (arith, top, set) in
    let within : further < length ws = elim (cases_lt further (length ws)) [
      | inl lt ↦ lt
      | inr le ↦ absurd (let no = past_words ws further le in omega (arith, some, no))
    ] in
    (within, λ j lo hi. between ws ts at j h (omega (arith, lo)) (found.first (j / 64) (omega (arith, lo)) (omega (arith, hi))), some)

-- a bit of that word
pub top_found : (ws ts : List ℕ) (at further word i : ℕ) → AreTops ws ts → NextBit ts at (Some further) → word ≡ word_at ws further → BitFrom word 0 (Some i) → NextBit ws (at * 64) (Some (further * 64 + i))
top_found ws ts at further word i h found is bit =
    let t = tops_some ws ts at further h found in
    let above = found.above in
    word_found ws (at * 64) (further * 64) further word 0 i (further * 64 + i) (omega (arith, above)) t.1 (omega arith) t.0 is (omega arith) bit refl

-- what is left of a word is passed
pub word_skipped : (ws : List ℕ) (from at word place : ℕ) (o : Option ℕ) → at ≡ from / 64 → word ≡ word_at ws at → place ≡ from % 64 → BitFrom word place None → NextBit ws ((at + 1) * 64) o → NextBit ws from o
word_skipped ws from at word place None here is low none further = λ j lo. elim (cases_lt j ((at + 1) * 64)) [
  | inl less ↦ word_passed ws from from at word place ((at + 1) * 64) (λ i le lt. absurd (omega (arith, le, lt))) here is low none refl j lo less
  | inr more ↦ further j more
]
word_skipped ws from at word place (Some i) here is low none further =
    let above = further.above in
    record {
      above = omega (arith, above, here);
      within = further.within;
      set = further.set;
      first = λ j lo hi. elim (cases_lt j ((at + 1) * 64)) [
        | inl less ↦ word_passed ws from from at word place ((at + 1) * 64) (λ k le lt. absurd (omega (arith, le, lt))) here is low none refl j lo less
        | inr more ↦ further.first j more hi
      ];
    }

-- its lowest bit
pub lowest_bit : (word i : ℕ) → 0 < word → word < 2 ^ 64 → i ≡ trailing_zeros w64 word → BitFrom word 0 (Some i)
lowest_bit word i some small at =
    let t = bit_at-trailing_zeros w64 word some small in
    record {
      above = omega arith;
      within = let lt = t.0 in omega (arith, lt, at);
      set = ap (λ (n : ℕ). bit_at word n) at ∙ t.1;
      first = λ j le lt. t.2 j (omega (arith, lt, at));
    }
