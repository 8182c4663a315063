-- A word says one value of its field or none, and so do the words of a command.
use Rattle.std.proofs.Common.{◌≡◌, ℕ, suc, ◌==◌, cond, ◌^◌, ◌⊎◌, inl, inr, List, [], ◌∷◌, length, slice_index, Option, None, Some, codes, refl, sym, ap, ◌∙◌, subst, arith}
use Rattle.std.specs.Str.{bytes_eq}
use Rattle.std.proofs.lemmas.Bool.{cases_Bool, cases_lt}
use Rattle.std.proofs.lemmas.Slice.Eq.{bytes_eq-Decides}
use Rattle.sctp_model.specs.messages.Format.{Kind, Ordered, Unordered}
use Rattle.sctp_model.specs.world.World.{Side, A, B}
use Rattle.sctp_terms.specs.declared.mode.Mode.{Mode}
use Rattle.sctp_terms.specs.declared.mode.Mode.TheVariants.{Data, PartialData, IData, PartialIData}
use Rattle.sctp_words.specs.Fields.{IsNumber, IsUntil, kind_word, mode_word, delay_word, Values, AreValues}
use Rattle.sctp_script.specs.Fields.{Field, ASide, ANumber, ATag, AMode, ADelay, AKind, AnUntil, ALimit, SomeBytes, Value, IsValue}
use Rattle.sctp_script.specs.OutcomeText.{side_word}
use Rattle.sctp_words.proofs.LimitLemmas.{one_limit, limit_or_none}
use Rattle.sctp_text.specs.Numerals.{IsDecimal, SaysOneNumber, SaysOneList}

-- what is known of words: each says one number or none, and one list of bytes or none
pub record WordsSay : Type 0 where
  pub numbers : (word : List ℕ) → SaysOneNumber word
  pub bytes : (word : List ℕ) → SaysOneList word

same_or_not : (xs ys : List ℕ) → (xs ≡ ys) ⊎ (xs ≡ ys → ⊥)
same_or_not xs ys =
    let test = bytes_eq-Decides xs ys in
    elim (cases_Bool (bytes_eq xs ys)) [
      | inl good ↦ inl (test.0 good)
      | inr bad ↦ inr (λ e. let good = test.1 e in cc)
    ]

-- ---- one value

one_side : (x y : Side) → side_word x ≡ side_word y → x ≡ y
one_side A A e = refl
one_side A B e = absurd (omega (arith, ap (λ (w : List ℕ). slice_index w 0) e))
one_side B A e = absurd (omega (arith, ap (λ (w : List ℕ). slice_index w 0) e))
one_side B B e = refl

one_kind : (k l : Kind) → kind_word k ≡ kind_word l → k ≡ l
one_kind Ordered Ordered e = refl
one_kind Ordered Unordered e = absurd (omega (arith, ap (λ (w : List ℕ). slice_index w 0) e))
one_kind Unordered Ordered e = absurd (omega (arith, ap (λ (w : List ℕ). slice_index w 0) e))
one_kind Unordered Unordered e = refl

-- each mode has a length of its own
abbrev mode_long : ℕ → Mode
mode_long n = cond (n == 4) Data (cond (n == 5) IData (cond (n == 7) PartialData PartialIData))

long_mode : (m : Mode) → mode_long (length (mode_word m)) ≡ m
long_mode Data = refl
long_mode PartialData = refl
long_mode IData = refl
long_mode PartialIData = refl

one_mode : (m n : Mode) → mode_word m ≡ mode_word n → m ≡ n
one_mode m n e = sym (long_mode m) ∙ ap (λ (w : List ℕ). mode_long (length w)) e ∙ long_mode n

-- `-` is no number
no_number : (word : List ℕ) (n : ℕ) → word ≡ codes "-" → IsDecimal word n → ⊥
no_number word n dash is =
    let digits = subst (λ (w : List ℕ). IsDecimal w n) dash is in
    omega (arith, digits.digits.1.0)

one_until : (say : WordsSay) (word : List ℕ) (t u : Option ℕ) → IsUntil word t → IsUntil word u → t ≡ u
one_until say word None None a b = refl
one_until say word None (Some n) a b = absurd (no_number word n a b.0)
one_until say word (Some m) None a b = absurd (no_number word m b a.0)
one_until say word (Some m) (Some n) a b = ap Some ((say.numbers word).one m n a.0 b.0)

pub one_value : (say : WordsSay) (f : Field) (word : List ℕ) (u v : Value f) → IsValue f word u → IsValue f word v → u ≡ v
one_value say ASide word x y a b = one_side x y (sym a ∙ b)
one_value say (ANumber bits) word m n a b = (say.numbers word).one m n a.0 b.0
one_value say ATag word m n a b = (say.numbers word).one m n a.0.0 b.0.0
one_value say AMode word m n a b = one_mode m n (sym a ∙ b)
one_value say ADelay word u v a b = refl
one_value say AKind word k l a b = one_kind k l (sym a ∙ b)
one_value say AnUntil word t u a b = one_until say word t u a b
one_value say ALimit word (t, m) (u, n) a b = let same = one_limit word t u m n a b in λ i. (same.0 i, same.1 i)
one_value say SomeBytes word xs ys a b = (say.bytes word).one xs ys a b

-- ---- a value or none

abbrev IsSaid : Field → List ℕ → Type 0
IsSaid f word = ((v : Value f) × IsValue f word v) ⊎ ((v : Value f) → IsValue f word v → ⊥)

no_side : (w : List ℕ) → (w ≡ codes "A" → ⊥) → (w ≡ codes "B" → ⊥) → (x : Side) → w ≡ side_word x → ⊥
no_side w na nb A e = na e
no_side w na nb B e = nb e

side_or_none : (w : List ℕ) → IsSaid ASide w
side_or_none w =
    elim (same_or_not w (codes "A")) [
      | inl a ↦ inl (A, a)
      | inr na ↦ elim (same_or_not w (codes "B")) [ inl b ↦ inl (B, b) | inr nb ↦ inr (no_side w na nb) ]
    ]

number_or_none : (say : WordsSay) (bits : ℕ) (w : List ℕ) → IsSaid (ANumber bits) w
number_or_none say bits w =
    elim (say.numbers w).decided [
      | inl n ↦ elim (cases_lt n.0 (2 ^ bits)) [
        | inl fits ↦ inl (n.0, (n.1, fits))
        | inr past ↦ inr (λ m is. omega (arith, past, is.1, (say.numbers w).one m n.0 is.0 n.1))
      ]
      | inr none ↦ inr (λ m is. none m is.0)
    ]

tag_or_none : (say : WordsSay) (w : List ℕ) → IsSaid ATag w
tag_or_none say w =
    elim (number_or_none say 32 w) [
      | inl n ↦ elim (cases_lt 0 n.0) [
        | inl some ↦ inl (n.0, (n.1, some))
        | inr zero_is ↦ inr (λ m is. omega (arith, zero_is, is.1, (say.numbers w).one m n.0 is.0.0 n.1.0))
      ]
      | inr none ↦ inr (λ m is. none m is.0)
    ]

no_mode : (w : List ℕ) → (w ≡ codes "data" → ⊥) → (w ≡ codes "data-pr" → ⊥) → (w ≡ codes "idata" → ⊥) → (w ≡ codes "idata-pr" → ⊥)
    → (m : Mode) → w ≡ mode_word m → ⊥
no_mode w nd np ni nq Data e = nd e
no_mode w nd np ni nq PartialData e = np e
no_mode w nd np ni nq IData e = ni e
no_mode w nd np ni nq PartialIData e = nq e

mode_or_none : (w : List ℕ) → IsSaid AMode w
mode_or_none w =
    elim (same_or_not w (codes "data")) [
      | inl d ↦ inl (Data, d)
      | inr nd ↦ elim (same_or_not w (codes "data-pr")) [
        | inl p ↦ inl (PartialData, p)
        | inr np ↦ elim (same_or_not w (codes "idata")) [
          | inl i ↦ inl (IData, i)
          | inr ni ↦ elim (same_or_not w (codes "idata-pr")) [ inl q ↦ inl (PartialIData, q) | inr nq ↦ inr (no_mode w nd np ni nq) ]
        ]
      ]
    ]

delay_or_none : (w : List ℕ) → IsSaid ADelay w
delay_or_none w =
    elim (same_or_not w delay_word) [
      | inl is ↦ inl (tt, is)
      | inr other ↦ inr (λ v is. other is)
    ]

no_kind : (w : List ℕ) → (w ≡ codes "o" → ⊥) → (w ≡ codes "u" → ⊥) → (k : Kind) → w ≡ kind_word k → ⊥
no_kind w not_o not_u Ordered e = not_o e
no_kind w not_o not_u Unordered e = not_u e

kind_or_none : (w : List ℕ) → IsSaid AKind w
kind_or_none w =
    elim (same_or_not w (codes "o")) [
      | inl o ↦ inl (Ordered, o)
      | inr not_o ↦ elim (same_or_not w (codes "u")) [ inl u ↦ inl (Unordered, u) | inr not_u ↦ inr (no_kind w not_o not_u) ]
    ]

no_until : (w : List ℕ) → (w ≡ codes "-" → ⊥) → ((n : ℕ) → IsNumber 64 w n → ⊥) → (t : Option ℕ) → IsUntil w t → ⊥
no_until w other none None is = other is
no_until w other none (Some n) is = none n is

until_or_none : (say : WordsSay) (w : List ℕ) → IsSaid AnUntil w
until_or_none say w =
    elim (same_or_not w (codes "-")) [
      | inl dash ↦ inl (None, dash)
      | inr other ↦ elim (number_or_none say 64 w) [ inl n ↦ inl (Some n.0, n.1) | inr none ↦ inr (no_until w other none) ]
    ]

limit_said : (w : List ℕ) → IsSaid ALimit w
limit_said w = elim (limit_or_none w) [ inl is ↦ inl ((is.0, is.1), is.2) | inr none ↦ inr (λ v is. none v.0 v.1 is) ]

pub value_or_none : (say : WordsSay) (f : Field) (w : List ℕ) → IsSaid f w
value_or_none say ASide w = side_or_none w
value_or_none say (ANumber bits) w = number_or_none say bits w
value_or_none say ATag w = tag_or_none say w
value_or_none say AMode w = mode_or_none w
value_or_none say ADelay w = delay_or_none w
value_or_none say AKind w = kind_or_none w
value_or_none say AnUntil w = until_or_none say w
value_or_none say ALimit w = limit_said w
value_or_none say SomeBytes w = (say.bytes w).decided

-- ---- the words of several fields

abbrev first_of : List (List ℕ) → List ℕ
first_of [] = []
first_of (w ∷ ws) = w

abbrev others_of : List (List ℕ) → List (List ℕ)
others_of [] = []
others_of (w ∷ ws) = ws

-- a value for each of some fields, and that the words say them
abbrev pub Given : List Field → Type 0
Given fs = Values Value fs

abbrev pub AreGiven : (fs : List Field) → List (List ℕ) → Given fs → Type 0
AreGiven fs words vs = AreValues Value IsValue fs words vs

-- what words that are there say of the first field
pub first_value : (f : Field) (fs : List Field) (words : List (List ℕ)) (w : List ℕ) (ws : List (List ℕ)) (vs : Given (f ∷ fs)) → words ≡ w ∷ ws
    → AreGiven (f ∷ fs) words vs → IsValue f w vs.0
first_value f fs words w ws vs is are = subst (λ (word : List ℕ). IsValue f word vs.0) (ap first_of (sym are.2 ∙ is)) are.3

-- and of the others
pub other_values : (f : Field) (fs : List Field) (words : List (List ℕ)) (w : List ℕ) (ws : List (List ℕ)) (vs : Given (f ∷ fs)) → words ≡ w ∷ ws
    → AreGiven (f ∷ fs) words vs → AreGiven fs ws vs.1
other_values f fs words w ws vs is are = subst (λ (others : List (List ℕ)). AreGiven fs others vs.1) (ap others_of (sym are.2 ∙ is)) are.4

pub one_values : (say : WordsSay) (fs : List Field) (words : List (List ℕ)) (us vs : Given fs) → AreGiven fs words us → AreGiven fs words vs → us ≡ vs
one_values say [] words us vs a b = refl
one_values say (f ∷ fs) words us vs a b =
    let first = one_value say f a.0 us.0 vs.0 a.3 (first_value f fs words a.0 a.1 vs a.2 b) in
    let others = one_values say fs a.1 us.1 vs.1 a.4 (other_values f fs words a.0 a.1 vs a.2 b) in
    λ i. (first i, others i)

pub values_or_none : (say : WordsSay) (fs : List Field) (words : List (List ℕ)) → ((vs : Given fs) × AreGiven fs words vs) ⊎ ((vs : Given fs) → AreGiven fs words vs → ⊥)
values_or_none say [] [] = inl (tt, refl)
values_or_none say [] (w ∷ ws) = inr (λ vs is. omega (arith, ap length is))
values_or_none say (f ∷ fs) [] = inr (λ vs are. omega (arith, ap length are.2))
values_or_none say (f ∷ fs) (w ∷ ws) =
    elim (value_or_none say f w) [
      | inr none ↦ inr (λ vs are. none vs.0 (first_value f fs (w ∷ ws) w ws vs refl are))
      | inl v ↦ elim (values_or_none say fs ws) [
        | inr none ↦ inr (λ vs are. none vs.1 (other_values f fs (w ∷ ws) w ws vs refl are))
        | inl vs ↦ inl ((v.0, vs.0), (w, ws, refl, v.1, vs.1))
      ]
    ]

-- there are as many words as fields
pub given_count : (fs : List Field) (words : List (List ℕ)) (vs : Given fs) → AreGiven fs words vs → length words ≡ length fs
given_count [] words vs are = ap length are
given_count (f ∷ fs) words vs are = ap length are.2 ∙ ap (λ (n : ℕ). suc n) (given_count fs are.1 vs.1 are.4)

-- no word is left
pub no_words : (words : List (List ℕ)) → length words ≡ 0 → words ≡ []
no_words [] none = refl
no_words (w ∷ ws) none = absurd (omega (arith, none))
