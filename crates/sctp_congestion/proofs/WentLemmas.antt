-- When fragments went out last: an index gets another number, CUM passes some, and which are missed.
use Rattle.std.proofs.Common.{◌≡◌, ℕ, suc, ◌+◌, ◌-◌, ◌<◌, ◌≤◌, inl, inr, Bool, true, false, List, length, get_or, set, drop, take, refl, sym, ap, ◌∙◌, subst, arith}
use Rattle.std.specs.Prelude.{if◌then◌else◌, ◌==◌, ◌||◌}
use Rattle.std.specs.List.{All}
use Rattle.std.proofs.lemmas.Bool.{cases_lt, cases_eq, lt-ltb, eq-eqb, ne_eqb}
use Rattle.std.proofs.lemmas.List.{get_or-set_same, get_or-set_other, get_or-drop}
use Rattle.std.proofs.lemmas.List.Folds.{list_any_more}
use Rattle.sctp_congestion.specs.Went.{WentKept, went_at, WentStands, IsLengthened, is_among, went_again, AreThose}

-- an index after the base has its entry, or itself
read_above : (k : WentKept) (i : ℕ) → k.base < i → went_at k i ≡ get_or k.entries (i - suc k.base) i
read_above k i above = ap (λ (b : Bool). if b then get_or k.entries (i - suc k.base) i else i) (lt-ltb k.base i above)

-- the same, with other numbers that are equal
pub went_by : (cum : ℕ) (k : WentKept) (f g : ℕ → ℕ) → WentStands cum k f → ((i : ℕ) → cum < i → f i ≡ g i) → WentStands cum k g
went_by cum k f g stands same = record {
  base = stands.base;
  each = λ i above. stands.each i above ∙ same i above;
  late = λ i above late. subst (λ (n : ℕ). i ≤ n) (same i above) (stands.late i above late);
}

-- CUM has moved
pub went_later : (before cum : ℕ) (k : WentKept) (went : ℕ → ℕ) → WentStands before k went → before ≤ cum → WentStands cum k went
went_later before cum k went stands more =
    let base = stands.base in
    record {
      base = omega (arith, base, more);
      each = λ i above. stands.each i (omega (arith, more, above));
      late = λ i above late. stands.late i (omega (arith, more, above)) late;
    }

-- ---- an index gets a number

at_it : (index i x y : ℕ) → index ≡ i → x ≡ (if index == i then x else y)
at_it index i x y same = sym (ap (λ (b : Bool). if b then x else y) (eq-eqb index i same))

at_other : (index i x y : ℕ) → (index ≡ i → ⊥) → y ≡ (if index == i then x else y)
at_other index i x y other = sym (ap (λ (b : Bool). if b then x else y) (ne_eqb index i other))

-- one that CUM passed
pub set_passed : (cum index number : ℕ) (k : WentKept) (went : ℕ → ℕ) → index ≤ k.base → WentStands cum k went
    → WentStands cum k (λ i. if index == i then number else went i)
set_passed cum index number k went low stands =
    let base = stands.base in
    went_by cum k went (λ i. if index == i then number else went i) stands (λ i above. at_other index i number (went i) (λ same. omega (arith, same, low, base, above)))

-- one after the base
pub set_kept : (cum index number base at room left early after : ℕ) (es ls : List ℕ) (went : ℕ → ℕ) → base < index → at ≡ index - base - 1 → IsLengthened base at es ls
    → early ≤ after → (number < index → index < after) → WentStands cum (record { base = base; entries = es; room = room; early_end = early }) went
    → WentStands cum (record { base = base; entries = set ls at number; room = left; early_end = after }) (λ i. if index == i then number else went i)
set_kept cum index number base at room left early after es ls went some place long rises early_too stands =
    let low = stands.base in
    record {
      base = stands.base;
      each = λ i above. elim (cases_eq index i) [
        | inl same ↦ read i above ∙ (here i same ∙ at_it index i number (went i) same)
        | inr other ↦ read i above ∙ (there i above other ∙ at_other index i number (went i) other)
      ];
      late = λ i above late. elim (cases_eq index i) [
        | inl same ↦
            let enough : i ≤ number = elim (cases_lt number index) [
              | inl less ↦ let early = early_too less in omega (arith, early, same, late)
              | inr more ↦ omega (arith, more, same)
            ] in
            subst (λ (n : ℕ). i ≤ n) (at_it index i number (went i) same) enough
        | inr other ↦ subst (λ (n : ℕ). i ≤ n) (at_other index i number (went i) other) (stands.late i above (omega (arith, rises, late)))
      ];
    }
  where
    kept : WentKept
    kept = record { base = base; entries = es; room = room; early_end = early }

    read : (i : ℕ) → cum < i → went_at (record { base = base; entries = set ls at number; room = left; early_end = after }) i ≡ get_or (set ls at number) (i - suc base) i
    read i above = let low = stands.base in read_above (record { base = base; entries = set ls at number; room = left; early_end = after }) i (omega (arith, low, above))

    here : (i : ℕ) → index ≡ i → get_or (set ls at number) (i - suc base) i ≡ number
    here i same =
        let spot : at ≡ i - suc base = omega (arith, place, same) in
        subst (λ (n : ℕ). get_or (set ls at number) n i ≡ number) spot (get_or-set_same ls at number i long.long)

    there : (i : ℕ) → cum < i → (index ≡ i → ⊥) → get_or (set ls at number) (i - suc base) i ≡ went i
    there i above other =
        let low = stands.base in
        let spot : suc base + (i - suc base) ≡ i = omega (arith, low, above) in
        let apart : i - suc base ≡ at → ⊥ = λ e. other (omega (arith, e, place, some, low, above)) in
        let each = subst (λ (n : ℕ). get_or ls (i - suc base) n ≡ get_or es (i - suc base) n) spot (long.each (i - suc base)) in
        get_or-set_other ls at (i - suc base) number i apart ∙ (each ∙ (sym (read_above kept i (omega (arith, low, above))) ∙ stands.each i above))

-- ---- some indexes get one

either : (b c : Bool) (x y : ℕ) → (if c then x else (if b then x else y)) ≡ (if b || c then x else y)
either true true x y = refl
either true false x y = refl
either false true x y = refl
either false false x y = refl

pub set_more : (cum number index n d : ℕ) (k : WentKept) (is : List ℕ) (went : ℕ → ℕ) → n < length is → index ≡ get_or is n d
    → WentStands cum k (λ i. if index == i then number else went_again (take n is) number went i) → WentStands cum k (went_again (take (n + 1) is) number went)
set_more cum number index n d k is went within read stands =
    went_by cum k (λ i. if index == i then number else went_again (take n is) number went i) (went_again (take (n + 1) is) number went) stands (λ i above.
    either (is_among (take n is) i) (index == i) number (went i)
    ∙ ap (λ (b : Bool). if b then number else went i)
    (ap (λ (x : ℕ). is_among (take n is) i || (x == i)) read ∙ sym (list_any_more (λ (j : ℕ). j == i) is n d within)))

-- those for which a test holds
pub went_tested : (cum room number : ℕ) (k : WentKept) (is : List ℕ) (test : ℕ → Bool) (went : ℕ → ℕ) → AreThose test cum room is → WentStands cum k (went_again is number went)
    → WentStands cum k (λ i. if test i then number else went i)
went_tested cum room number k is test went those stands =
    went_by cum k (went_again is number went) (λ i. if test i then number else went i) stands (λ i above. ap (λ (b : Bool). if b then number else went i) (those.those i above))

-- ---- CUM passes some

pub went_passed : (before cum base room left early : ℕ) (es : List ℕ) (went : ℕ → ℕ) → WentStands before (record { base = base; entries = es; room = room; early_end = early }) went
    → before ≤ cum → base < cum → WentStands cum (record { base = cum; entries = drop (cum - base) es; room = left; early_end = early }) went
went_passed before cum base room left early es went stands more some =
    let low = stands.base in
    record {
      base = omega arith;
      each = λ i above.
          let spot : (cum - base) + (i - suc cum) ≡ i - suc base = omega (arith, some, above) in
          read_above (record { base = cum; entries = drop (cum - base) es; room = left; early_end = early }) i above
          ∙ (get_or-drop (cum - base) es (i - suc cum) i
          ∙ (ap (λ (n : ℕ). get_or es n i) spot
          ∙ (sym (read_above (record { base = base; entries = es; room = room; early_end = early }) i (omega (arith, low, more, above)))
          ∙ stands.each i (omega (arith, more, above)))));
      late = λ i above late. stands.late i (omega (arith, more, above)) late;
    }

-- ---- there is memory for more

pub within_more : (m n : ℕ) (is : List ℕ) → m ≤ n → All (λ i. i ≤ m) is → All (λ i. i ≤ n) is
within_more m n is more all = λ k d lt. let low = all k d lt in omega (arith, more, low)
