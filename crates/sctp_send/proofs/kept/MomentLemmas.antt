-- The moments of tickets.
use Rattle.std.proofs.Common.{◌≡◌, ℕ, suc, ◌+◌, ◌-◌, ◌^◌, ◌<◌, ◌≤◌, inl, inr, List, [], ◌∷◌, ◌++◌, length, get_or, set, drop, Bool, true, false, Option, None, Some, refl, sym, ap, ◌∙◌, arith}
use Rattle.std.specs.Prelude.{nat_le, if◌then◌else◌, unwrap_or}
use Rattle.std.proofs.lemmas.Bool.{cases_lt}
use Rattle.std.proofs.lemmas.Bool.Decides.{nat_tests}
use Rattle.std.proofs.lemmas.List.{length_push, get_or_push, get_or_append_left, get_or_past, get_or-set_same, get_or-set_other, get_or-drop}
use Rattle.sctp_model.specs.numbers.Limits.{LAST_MOMENT}
use Rattle.sctp_send.specs.inner.Dues.{due_at, has_come, IsPushed}

-- ---- one ticket more

behind_all : (ms : List ℕ) (m k d : ℕ) → length ms < k → get_or (ms ++ m ∷ []) k d ≡ d
behind_all ms m k d lt = let long = length_push ms m in get_or_past (ms ++ m ∷ []) k d (omega (arith, long, lt))

-- a ticket's moment, by where it stands
pub due_passed : (p : ℕ) (ms : List ℕ) (t : ℕ) → t ≤ p → due_at p ms t ≡ 2 ^ 64
unfolding due_at
due_passed p ms t le = let on : nat_le t p ≡ true = grind (arith, nat_tests) in ap (λ (b : Bool). if b then 2 ^ 64 else get_or ms (t - suc p) (2 ^ 64)) on

pub due_there : (p : ℕ) (ms : List ℕ) (k : ℕ) → due_at p ms (p + 1 + k) ≡ get_or ms k (2 ^ 64)
unfolding due_at
due_there p ms k =
    let off : nat_le (p + 1 + k) p ≡ false = grind (arith, nat_tests) in
    let at : p + 1 + k - suc p ≡ k = omega arith in
    ap (λ (b : Bool). if b then 2 ^ 64 else get_or ms (p + 1 + k - suc p) (2 ^ 64)) off ∙ ap (λ (n : ℕ). get_or ms n (2 ^ 64)) at

-- where a ticket behind the passed ones stands
moment_index : (p t : ℕ) → p < t → t ≡ p + 1 + (t - p - 1)
moment_index p t lt = omega (arith, lt)

due_push : (p : ℕ) (ms : List ℕ) (m t now : ℕ) → m < 2 ^ 64 → now < due_at p (ms ++ m ∷ []) t → (now < due_at p ms t) × (t ≡ suc (p + length ms) → now < m)
due_push p ms m t now small lt = elim (cases_lt p t) [
  | inr le ↦ (
    let was = due_passed p ms t le in let is = due_passed p (ms ++ m ∷ []) t le in omega (arith, was, is, lt),
    λ same. absurd (omega (arith, same, le)),
  )
  | inl past ↦
      let k = t - p - 1 in
      let there = moment_index p t past in
      let is = ap (due_at p (ms ++ m ∷ [])) there ∙ due_there p (ms ++ m ∷ []) k in
      let was = ap (due_at p ms) there ∙ due_there p ms k in
      elim (cases_lt k (length ms)) [
        | inl within ↦ (
          let same = get_or_append_left ms (m ∷ []) (2 ^ 64) k within in omega (arith, is, was, same, lt),
          λ last. absurd (omega (arith, last, there, within)),
        )
        | inr out ↦ (
          let none = get_or_past ms k (2 ^ 64) out in
              elim (cases_lt (length ms) k) [
                | inl further ↦ let end = behind_all ms m k (2 ^ 64) further in omega (arith, is, was, none, end, lt)
                | inr up ↦ let here : k ≡ length ms = omega (arith, out, up) in let end = ap (λ (n : ℕ). get_or (ms ++ m ∷ []) n (2 ^ 64)) here ∙ get_or_push ms m (2 ^ 64) (length ms) refl in omega (arith, is, was, none, end, lt, small)
              ],
          λ last. let here : k ≡ length ms = omega (arith, last, there) in let end = ap (λ (n : ℕ). get_or (ms ++ m ∷ []) n (2 ^ 64)) here ∙ get_or_push ms m (2 ^ 64) (length ms) refl in omega (arith, is, end, lt),
        )
      ]
]

-- a deadline hasn't come before the moment
pub not_come : (now : ℕ) (o : Option ℕ) → now < unwrap_or o LAST_MOMENT → has_come now o ≡ false
not_come now None lt = refl
not_come now (Some until) lt = grind (arith, nat_tests)

due_none : (p : ℕ) (t : ℕ) → due_at p [] t ≡ 2 ^ 64
due_none p t = elim (cases_lt p t) [
  | inr le ↦ due_passed p [] t le
  | inl past ↦ ap (due_at p []) (moment_index p t past) ∙ due_there p [] (t - p - 1) ∙ get_or_past [] (t - p - 1) (2 ^ 64) (omega arith)
]

pub many_pushed : (p q : ℕ) (ms ns : List ℕ) (until : Option ℕ) → IsPushed p q ms ns until → q + length ns ≡ suc (p + length ms)
many_pushed p q ms ns until (inl more) = let is = ap (λ (xs : List ℕ). length xs) more.1 in let long = length_push ms (unwrap_or until LAST_MOMENT) in let same = more.0 in omega (arith, is, long, same)
many_pushed p q ms ns until (inr none) = let is = ap (λ (xs : List ℕ). length xs) none.3 in let was = ap (λ (xs : List ℕ). length xs) none.2 in let last = none.1 in omega (arith, is, was, last)

pub due_pushed : (p q : ℕ) (ms ns : List ℕ) (until : Option ℕ) (t now : ℕ) → IsPushed p q ms ns until → unwrap_or until LAST_MOMENT < 2 ^ 64 → now < due_at q ns t → (now < due_at p ms t) × (t ≡ suc (p + length ms) → has_come now until ≡ false)
due_pushed p q ms ns until t now (inl more) small lt =
    let is : due_at q ns t ≡ due_at p (ms ++ unwrap_or until LAST_MOMENT ∷ []) t = rw (more.0, more.1) refl in
    let both = due_push p ms (unwrap_or until LAST_MOMENT) t now small (omega (arith, is, lt)) in
    (both.0, λ last. not_come now until (both.1 last))
due_pushed p q ms ns until t now (inr none) small lt =
    let is = ap (λ (xs : List ℕ). due_at q xs t) none.3 ∙ due_none q t in
    let was = ap (λ (xs : List ℕ). due_at p xs t) none.2 ∙ due_none p t in
    (omega (arith, is, was, lt), λ last. ap (has_come now) none.0)

-- ---- tickets are passed

-- the other tickets have their moments still
pub due_behind : (p : ℕ) (ms : List ℕ) (n t now : ℕ) → n ≤ length ms → p + n < t → now < due_at (p + n) (drop n ms) t → now < due_at p ms t
due_behind p ms n t now most past lt =
    let k = t - (p + n) - 1 in
    let there = moment_index (p + n) t past in
    let is = ap (due_at (p + n) (drop n ms)) there ∙ due_there (p + n) (drop n ms) k ∙ get_or-drop n ms k (2 ^ 64) in
    let further : t ≡ p + 1 + (n + k) = omega (arith, there) in
    let was = ap (due_at p ms) further ∙ due_there p ms (n + k) in
    omega (arith, is, was, lt)

-- ---- where a ticket's moment stands

pub due_above : (p : ℕ) (ms : List ℕ) (now t : ℕ) → now < 2 ^ 64 → ((k : ℕ) → t ≡ p + 1 + k → k < length ms → now < get_or ms k (2 ^ 64)) → now < due_at p ms t
due_above p ms now t small each = elim (cases_lt p t) [
  | inr le ↦ let is = due_passed p ms t le in omega (arith, is, small)
  | inl past ↦
      let k = t - p - 1 in
      let there = moment_index p t past in
      let is = ap (due_at p ms) there ∙ due_there p ms k in
      elim (cases_lt k (length ms)) [
        | inl within ↦ let below = each k there within in omega (arith, is, below)
        | inr out ↦ let none = get_or_past ms k (2 ^ 64) out in omega (arith, is, none, small)
      ]
]

-- ---- one moment is changed

pub due_set_other : (p : ℕ) (ms : List ℕ) (at m t : ℕ) → (t ≡ p + 1 + at → ⊥) → due_at p (set ms at m) t ≡ due_at p ms t
due_set_other p ms at m t other = elim (cases_lt p t) [
  | inr le ↦ due_passed p (set ms at m) t le ∙ sym (due_passed p ms t le)
  | inl past ↦
      let k = t - p - 1 in
      let there = moment_index p t past in
      ap (due_at p (set ms at m)) there ∙ due_there p (set ms at m) k ∙ get_or-set_other ms at k m (2 ^ 64) (λ same. other (omega (arith, there, same))) ∙ sym (ap (due_at p ms) there ∙ due_there p ms k)
]

pub due_set_same : (p : ℕ) (ms : List ℕ) (at m t : ℕ) → t ≡ p + 1 + at → at < length ms → due_at p (set ms at m) t ≡ m
due_set_same p ms at m t same within = ap (due_at p (set ms at m)) same ∙ due_there p (set ms at m) at ∙ get_or-set_same ms at m (2 ^ 64) within
