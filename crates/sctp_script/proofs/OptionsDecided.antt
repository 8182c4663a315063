-- Whether a line is one of options is decided, and in one way.
use Rattle.std.proofs.Common.{◌≡◌, ℕ, zero, suc, ◌≤◌, ◌⊎◌, inl, inr, List, [], ◌∷◌, ◌++◌, length, slice_index, take, drop, refl, sym, ap, ◌∙◌, subst, arith}
use Rattle.std.specs.Str.{bytes_eq}
use Rattle.std.proofs.lemmas.Bool.{cases_Bool, cases_lt}
use Rattle.std.proofs.lemmas.List.{take-append-drop, length-take, length-drop}
use Rattle.std.proofs.lemmas.Slice.Eq.{bytes_eq-Decides}
use Rattle.sctp_script.specs.declared.option_name.Ends.{Ends}
use Rattle.sctp_script.specs.declared.option_name.Ends.TheVariants as ends
use Rattle.sctp_script.specs.Ends.{ends_word}
use Rattle.sctp_script.specs.Options.{option_word, words_taken}
use Rattle.sctp_script.specs.OptionLines.{GivenOption, AreOptions, options_word, IsOptionsLine}
use Rattle.sctp_script.specs.Places.{IsPlain}
use Rattle.sctp_script.proofs.OptionNames.{option_or_none}
use Rattle.sctp_script.proofs.OptionWords.{some_given, given, unknown_given, enough_given, put_front, take_front}
use Rattle.sctp_text.specs.SpacedWords.{words_of}
use Rattle.sctp_text.specs.declared.limits.TheConstants.{LONGEST_LINE}

same_or_not : (xs ys : List ℕ) → (xs ≡ ys) ⊎ (xs ≡ ys → ⊥)
same_or_not xs ys =
    let test = bytes_eq-Decides xs ys in
    elim (cases_Bool (bytes_eq xs ys)) [
      | inl good ↦ inl (test.0 good)
      | inr bad ↦ inr (λ e. let good = test.1 e in cc)
    ]

-- ---- whether words are options

are_or_not : (n : ℕ) (words : List (List ℕ)) → length words ≤ n → ((gs : List GivenOption) × AreOptions words gs) ⊎ ((gs : List GivenOption) → AreOptions words gs → ⊥)
are_or_not n [] small = inl ([], refl)
are_or_not zero (w ∷ ws) small = absurd (omega (arith, small))
are_or_not (suc n) (w ∷ ws) small =
    elim (option_or_none w) [
      | inr none ↦ inr (λ gs are. unknown_given (w ∷ ws) w ws gs refl none are)
      | inl named ↦ elim (cases_lt (length ws) (words_taken named.0)) [
        | inl few ↦ inr (λ gs are. let enough = enough_given (w ∷ ws) w ws named.0 gs refl named.1 are in omega (arith, few, enough))
        | inr enough ↦
            let k = words_taken named.0 in
            let whole : ws ≡ take k ws ++ drop k ws = sym (take-append-drop k ws) in
            let count : length (take k ws) ≡ k = omega (arith, length-take k ws, enough) in
            elim (are_or_not n (drop k ws) (omega (arith, length-drop k ws, small))) [
              | inl others ↦ inl (given named.0 (take k ws) ∷ others.0, put_front (w ∷ ws) w ws (take k ws) (drop k ws) named.0 others.0 refl named.1 whole count others.1)
              | inr none ↦ inr (λ gs are.
                  let t = take_front (w ∷ ws) w ws (take k ws) (drop k ws) named.0 gs refl named.1 whole count are in
                  none t.more t.are)
            ]
      ]
    ]

-- they are options in one way
one_given : (gs hs : List GivenOption) (words : List (List ℕ)) → AreOptions words gs → AreOptions words hs → gs ≡ hs
one_given [] [] words none other = refl
one_given [] (h ∷ hs) words none are = absurd (omega (arith, ap length (sym none ∙ are.1)))
one_given (g ∷ gs) hs words (others, is, count, rest) are =
    let t = take_front words (option_word g.option) (g.words ++ others) g.words others g.option hs is refl refl count are in
    ap (λ (more : List GivenOption). g ∷ more) (one_given gs t.more others rest t.are) ∙ sym t.all

-- ---- whether a line is one of options

one_ends : (x y : Ends) → ends_word x ≡ ends_word y → x ≡ y
one_ends ends.A ends.A e = refl
one_ends ends.A ends.B e = absurd (omega (arith, ap (λ (w : List ℕ). slice_index w 0) e))
one_ends ends.A ends.Both e = absurd (omega (arith, ap length e))
one_ends ends.B ends.A e = absurd (omega (arith, ap (λ (w : List ℕ). slice_index w 0) e))
one_ends ends.B ends.B e = refl
one_ends ends.B ends.Both e = absurd (omega (arith, ap length e))
one_ends ends.Both ends.A e = absurd (omega (arith, ap length e))
one_ends ends.Both ends.B e = absurd (omega (arith, ap length e))
one_ends ends.Both ends.Both e = refl

no_ends : (w : List ℕ) → (w ≡ ends_word ends.A → ⊥) → (w ≡ ends_word ends.B → ⊥) → (w ≡ ends_word ends.Both → ⊥) → (x : Ends) → w ≡ ends_word x → ⊥
no_ends w na nb nc ends.A e = na e
no_ends w na nb nc ends.B e = nb e
no_ends w na nb nc ends.Both e = nc e

ends_or_none : (w : List ℕ) → ((x : Ends) × (w ≡ ends_word x)) ⊎ ((x : Ends) → w ≡ ends_word x → ⊥)
ends_or_none w =
    elim (same_or_not w (ends_word ends.A)) [
      | inl a ↦ inl (ends.A, a)
      | inr na ↦ elim (same_or_not w (ends_word ends.B)) [
        | inl b ↦ inl (ends.B, b)
        | inr nb ↦ elim (same_or_not w (ends_word ends.Both)) [ inl c ↦ inl (ends.Both, c) | inr nc ↦ inr (no_ends w na nb nc) ]
      ]
    ]

abbrev first_of : List (List ℕ) → List ℕ
first_of [] = []
first_of (w ∷ ws) = w

abbrev others_of : List (List ℕ) → List (List ℕ)
others_of [] = []
others_of (w ∷ ws) = ws

abbrev IsOrNot : List ℕ → Type 0
IsOrNot line = ((x : Ends) × (gs : List GivenOption) × IsOptionsLine line x gs) ⊎ IsPlain line

-- a line that has these words
with_words : (line : List ℕ) (words : List (List ℕ)) → words_of line ≡ words → length line ≤ LONGEST_LINE → IsOrNot line
with_words line [] is short = inr (λ x gs other. omega (arith, ap length (sym is ∙ other.3)))
with_words line (w ∷ []) is short = inr (λ x gs other. omega (arith, ap length (sym is ∙ other.3)))
with_words line (w ∷ v ∷ []) is short = inr (λ x gs other.
    let none : other.2 ≡ [] = ap others_of (ap others_of (sym other.3 ∙ is)) in
    omega (arith, ap length (one_given gs [] other.2 other.4 none), other.1))
with_words line (w ∷ v ∷ u ∷ ws) is short =
    elim (same_or_not w options_word) [
      | inr none ↦ inr (λ x gs other. none (ap first_of (sym is ∙ other.3)))
      | inl begins ↦ elim (ends_or_none v) [
        | inr none ↦ inr (λ x gs other. none x (ap first_of (ap others_of (sym is ∙ other.3))))
        | inl named ↦ elim (are_or_not (length (u ∷ ws)) (u ∷ ws) (omega arith)) [
          | inr none ↦ inr (λ x gs other.
              none gs (subst (λ (us : List (List ℕ)). AreOptions us gs) (ap others_of (ap others_of (sym other.3 ∙ is))) other.4))
          | inl options ↦ inl (
            named.0,
            options.0,
            (
              short,
              some_given (u ∷ ws) options.0 options.1 (omega arith),
              u ∷ ws,
              is ∙ ap (λ (x : List ℕ). x ∷ v ∷ u ∷ ws) begins ∙ ap (λ (x : List ℕ). options_word ∷ x ∷ u ∷ ws) named.1,
              options.1,
            ),
          )
        ]
      ]
    ]

pub is_or_not : (line : List ℕ) → IsOrNot line
is_or_not line =
    elim (cases_lt LONGEST_LINE (length line)) [
      | inl long ↦ inr (λ x gs other. omega (arith, long, other.0))
      | inr short ↦ with_words line (words_of line) refl (omega (arith, short))
    ]

-- it is so in one way
pub one_ends_line : (line : List ℕ) (x y : Ends) (gs hs : List GivenOption) → IsOptionsLine line x gs → IsOptionsLine line y hs → x ≡ y
one_ends_line line x y gs hs a b = one_ends x y (ap first_of (ap others_of (sym a.3 ∙ b.3)))

pub one_options_line : (line : List ℕ) (x y : Ends) (gs hs : List GivenOption) → IsOptionsLine line x gs → IsOptionsLine line y hs → gs ≡ hs
one_options_line line x y gs hs a b =
    let words : a.2 ≡ b.2 = ap others_of (ap others_of (sym a.3 ∙ b.3)) in
    one_given gs hs b.2 (subst (λ (us : List (List ℕ)). AreOptions us gs) words a.4) b.4
