-- A word spells one lifetime and limit of retransmissions, or none: it is cut at its first `x`, since a time has none.
use Rattle.std.proofs.Common.{◌≡◌, ℕ, zero, suc, ◌+◌, ◌^◌, ◌<◌, ◌==◌, true, false, ◌⊎◌, inl, inr, List, [], ◌∷◌, ◌++◌, length, get_or, take, drop, take_all, add-one, Option, None, Some, refl, sym, ap, ◌∙◌, subst, arith}
use Rattle.std.proofs.Math.Seq.{split_at}
use Rattle.std.proofs.lemmas.Bool.Decides.{nat_tests}
use Rattle.std.specs.Str.Parse.{AllDigits}
use Rattle.std.proofs.lemmas.Bool.{cases_eq, cases_lt}
use Rattle.sctp_text.proofs.WordValues.{same_or_not, one_decimal, decimal_or_none}
use Rattle.sctp_words.specs.Fields.{IsNumber, IsUntil, IsTimeBefore, IsUntilLimit}
use Rattle.sctp_words.specs.declared.fields.TheConstants.{LIMIT_MARK}

-- no byte of the word marks a limit
abbrev pub Lacks : List ℕ → Type 0
Lacks [] = Unit {0}
Lacks (c ∷ cs) = (c ≡ LIMIT_MARK → ⊥) × Lacks cs

-- ---- words without the mark

digits_lack : (word : List ℕ) → AllDigits 10 word → Lacks word
digits_lack [] digits = tt
digits_lack (c ∷ cs) digits = ((λ is. let first = subst (λ (b : ℕ). AllDigits 10 (b ∷ cs)) is digits in omega (arith, first.0)), digits_lack cs digits.1)

pub number_lacks : (bits : ℕ) (word : List ℕ) (n : ℕ) → IsNumber bits word n → Lacks word
number_lacks bits word n is = digits_lack word is.0.digits.1

dash_lacks : Lacks (45 ∷ [])
dash_lacks = ((λ e. omega (arith, e)), tt)

pub until_lacks : (word : List ℕ) (t : Option ℕ) → IsUntil word t → Lacks word
until_lacks word None is = subst Lacks (sym is) dash_lacks
until_lacks word (Some n) is = number_lacks 64 word n is

pub time_lacks : (word : List ℕ) (t : Option ℕ) → IsTimeBefore word t → Lacks word
time_lacks word None is = subst Lacks (sym is) tt
time_lacks word (Some n) is = number_lacks 64 word n is

-- ---- the first mark

pub marked_has : (time count : List ℕ) → Lacks (time ++ LIMIT_MARK ∷ count) → ⊥
marked_has [] count lacks = lacks.0 refl
marked_has (c ∷ cs) count lacks = marked_has cs count lacks.1

pub one_time : (xs ys us bs : List ℕ) → Lacks xs → Lacks us → xs ++ LIMIT_MARK ∷ ys ≡ us ++ LIMIT_MARK ∷ bs → (xs ≡ us) × (ys ≡ bs)
one_time [] ys [] bs first second e = (refl, cc)
one_time [] ys (a ∷ us) bs first second e = absurd (second.0 (cc))
one_time (x ∷ xs) ys [] bs first second e = absurd (first.0 (cc))
one_time (x ∷ xs) ys (a ∷ us) bs first second e =
    let head : x ≡ a = cc in
    let rest : xs ++ LIMIT_MARK ∷ ys ≡ us ++ LIMIT_MARK ∷ bs = cc in
    let others = one_time xs ys us bs first.1 second.1 rest in
    (cc, others.1)

-- the word has no mark; or it is cut at its first one
pub cut_or_not : (word : List ℕ) → Lacks word ⊎ ((time count : List ℕ) × (word ≡ time ++ LIMIT_MARK ∷ count) × Lacks time)
cut_or_not [] = inl tt
cut_or_not (c ∷ cs) =
    elim (cases_eq c LIMIT_MARK) [
      | inl is ↦ inr ([], cs, ap (λ (b : ℕ). b ∷ cs) is, tt)
      | inr other ↦ elim (cut_or_not cs) [
        | inl lacks ↦ inl (other, lacks)
        | inr cut ↦ inr (c ∷ cut.0, cut.1, ap (λ (bs : List ℕ). c ∷ bs) cut.2, (other, cut.3))
      ]
    ]

-- ---- what is read of a word

lacks_below : (word : List ℕ) (i : ℕ) → ((k : ℕ) → k < i → (get_or word k 0 == LIMIT_MARK) ≡ false) → Lacks (take i word)
lacks_below [] zero none = tt
lacks_below [] (suc i) none = tt
lacks_below (c ∷ cs) zero none = tt
lacks_below (c ∷ cs) (suc i) none =
    let first : (c == LIMIT_MARK) ≡ false = none 0 (omega arith) in
    ((λ is. let Same : ℕ → Type 0 = λ b. (b == LIMIT_MARK) ≡ false in let bad : true ≡ false = subst Same is first in cc), lacks_below cs i (λ k below. none (suc k) (omega arith)))

pub lacks_all : (word : List ℕ) → ((k : ℕ) → k < length word → (get_or word k 0 == LIMIT_MARK) ≡ false) → Lacks word
lacks_all word none = subst Lacks (take_all (length word) word (omega arith)) (lacks_below word (length word) none)

-- a word that is cut at its first mark
pub record IsCut (word time count : List ℕ) : Type 0 where
  pub whole : word ≡ time ++ LIMIT_MARK ∷ count
  pub lacks : Lacks time

split_plus : (word : List ℕ) (i : ℕ) → i < length word → word ≡ take i word ++ get_or word i 0 ∷ drop (i + 1) word
split_plus word i inside = rw add-one (split_at word i 0 inside)

pub cut_at : (word : List ℕ) (i : ℕ) → i < length word → ((k : ℕ) → k < i → (get_or word k 0 == LIMIT_MARK) ≡ false) → (get_or word i 0 == LIMIT_MARK) ≡ true
    → IsCut word (take i word) (drop (i + 1) word)
cut_at word i inside none here =
    let mark : get_or word i 0 ≡ LIMIT_MARK = grind (arith, nat_tests) in
    record { whole = split_plus word i inside ∙ ap (λ (b : ℕ). take i word ++ b ∷ drop (i + 1) word) mark; lacks = lacks_below word i none }

abbrev pub SpellsNone : List ℕ → Type 0
SpellsNone word = (until limit : Option ℕ) → IsUntilLimit word until limit → ⊥

same_cut : (word time count xs ys : List ℕ) → IsCut word time count → word ≡ xs ++ LIMIT_MARK ∷ ys → (t : Option ℕ) → IsTimeBefore xs t → (xs ≡ time) × (ys ≡ count)
same_cut word time count xs ys cut is t spells = one_time xs ys time count (time_lacks xs t spells) cut.lacks (sym is ∙ cut.whole)

no_unmarked : (word time count : List ℕ) → IsCut word time count → (t : Option ℕ) → IsUntil word t → ⊥
no_unmarked word time count cut t is = marked_has time count (subst Lacks cut.whole (until_lacks word t is))

pub no_time : (word time count : List ℕ) → IsCut word time count → ((t : Option ℕ) → IsTimeBefore time t → ⊥) → SpellsNone word
no_time word time count cut none until None is = no_unmarked word time count cut until is
no_time word time count cut none until (Some n) has =
    none until (subst (λ (w : List ℕ). IsTimeBefore w until) (same_cut word time count has.time has.count cut has.whole until has.lifetime).0 has.lifetime)

pub no_count : (word time count : List ℕ) → IsCut word time count → ((n : ℕ) → IsNumber 16 count n → ⊥) → SpellsNone word
no_count word time count cut none until None is = no_unmarked word time count cut until is
no_count word time count cut none until (Some n) has =
    none n (subst (λ (w : List ℕ). IsNumber 16 w n) (same_cut word time count has.time has.count cut has.whole until has.lifetime).1 has.number)

pub no_until : (word : List ℕ) → Lacks word → ((t : Option ℕ) → IsUntil word t → ⊥) → SpellsNone word
no_until word lacks none until None is = none until is
no_until word lacks none until (Some n) has = marked_has has.time has.count (subst Lacks has.whole lacks)

-- ---- one value or none

one_before : (word : List ℕ) (t u : Option ℕ) → IsTimeBefore word t → IsTimeBefore word u → t ≡ u
one_before word None None a b = refl
one_before word None (Some n) a b = let digits = b.0.digits.0 in absurd (omega (arith, ap length a))
one_before word (Some m) None a b = let digits = a.0.digits.0 in absurd (omega (arith, ap length b))
one_before word (Some m) (Some n) a b = ap Some (one_decimal word m n a.0 b.0)

-- a word spells one lifetime and one limit
pub one_limit : (word : List ℕ) (t u : Option ℕ) (m n : ℕ) → IsUntilLimit word t (Some m) → IsUntilLimit word u (Some n) → (t ≡ u) × (m ≡ n)
one_limit word t u m n a b =
    let same = one_time a.time a.count b.time b.count (time_lacks a.time t a.lifetime) (time_lacks b.time u b.lifetime) (sym a.whole ∙ b.whole) in
    let here : IsTimeBefore b.time t = subst (λ (w : List ℕ). IsTimeBefore w t) same.0 a.lifetime in
    let there : IsNumber 16 b.count m = subst (λ (w : List ℕ). IsNumber 16 w m) same.1 a.number in
    (one_before b.time t u here b.lifetime, one_decimal b.count m n there.0 b.number.0)

-- and none that spells a limit spells a lifetime alone
pub limit_or_until : (word : List ℕ) (t u : Option ℕ) (n : ℕ) → IsUntil word t → IsUntilLimit word u (Some n) → ⊥
limit_or_until word t u n is has = marked_has has.time has.count (subst Lacks has.whole (until_lacks word t is))

number_or_none : (bits : ℕ) (word : List ℕ) → ((n : ℕ) × IsNumber bits word n) ⊎ ((n : ℕ) → IsNumber bits word n → ⊥)
number_or_none bits word =
    elim (decimal_or_none word) [
      | inl n ↦ elim (cases_lt n.0 (2 ^ bits)) [
        | inl fits ↦ inl (n.0, (n.1, fits))
        | inr past ↦ inr (λ m is. omega (arith, past, is.1, one_decimal word m n.0 is.0 n.1))
      ]
      | inr none ↦ inr (λ m is. none m is.0)
    ]

no_before : (word : List ℕ) → (word ≡ [] → ⊥) → ((n : ℕ) → IsNumber 64 word n → ⊥) → (t : Option ℕ) → IsTimeBefore word t → ⊥
no_before word some none None is = some is
no_before word some none (Some n) is = none n is

before_or_none : (word : List ℕ) → ((t : Option ℕ) × IsTimeBefore word t) ⊎ ((t : Option ℕ) → IsTimeBefore word t → ⊥)
before_or_none word =
    elim (same_or_not word []) [
      | inl empty ↦ inl (None, empty)
      | inr some ↦ elim (number_or_none 64 word) [ inl n ↦ inl (Some n.0, n.1) | inr none ↦ inr (no_before word some none) ]
    ]

pub limit_or_none : (word : List ℕ) → ((t : Option ℕ) × (n : ℕ) × IsUntilLimit word t (Some n)) ⊎ ((t : Option ℕ) (n : ℕ) → IsUntilLimit word t (Some n) → ⊥)
limit_or_none word =
    elim (cut_or_not word) [
      | inl lacks ↦ inr (λ t n is. marked_has is.time is.count (subst Lacks is.whole lacks))
      | inr (time, count, whole, apart) ↦
          let cut : IsCut word time count = record { whole = whole; lacks = apart } in
          elim (before_or_none time) [
            | inr none ↦ inr (λ t n is. no_time word time count cut none t (Some n) is)
            | inl t ↦ elim (number_or_none 16 count) [
              | inr none ↦ inr (λ u n is. no_count word time count cut none u (Some n) is)
              | inl n ↦ inl (t.0, n.0, record { time = time; count = count; whole = whole; lifetime = t.1; number = n.1 })
            ]
          ]
    ]
