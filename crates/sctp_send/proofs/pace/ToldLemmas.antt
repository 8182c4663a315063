-- What a caller tells of a range of indexes by a test, at the offsets above CUM that the code walks over.
use Rattle.std.proofs.Common.{inl, inr, ◌≡◌, ◌∙◌, ℕ, suc, ◌+◌, ◌-◌, ◌<◌, ◌≤◌, Bool, true, false, List, length, Option, Some, None, refl, sym, ap, subst, arith}
use Rattle.std.specs.Prelude.{nat_le, nat_lt, ◌&&◌, option_map}
use Rattle.std.proofs.lemmas.Bool.{cases_lt}
use Rattle.std.proofs.lemmas.Bool.Decides.{nat_tests}
use Rattle.sctp_model.specs.messages.Format.{Format}
use Rattle.sctp_model.specs.sender.SenderView.{SenderView}
use Rattle.sctp_model.specs.sender.Entries.{is_in_flight, passes_at}
use Rattle.sctp_model.proofs.sender.WordLaws.{lowest_found, lowest_none}
use Rattle.sctp_model.proofs.sender.Bounds.{IsBounded, is_bounded}
use Rattle.sctp_send.specs.SenderKept.{Item, Kept}
use Rattle.sctp_send.specs.SenderStands.{Keeps}
use Rattle.sctp_send.specs.PaceAnswers.{first_in_flight, AgreeInFlight, AgreeAbove}
use Rattle.sctp_send.specs.inner.Testing.{index_of, passes_between}
use Rattle.sctp_send.specs.inner.Weighing.{is_item_flying, passes_here, flies_and_passes, FirstAnswer}
use Rattle.sctp_send.proofs.KeepLemmas.{kept_length}
use Rattle.sctp_send.proofs.TimerLemmas.{offsets_between}
use Rattle.sctp_send.proofs.pace.PaceViews.{index_fits, kept_passes, passing_within}

and_regroups : (a b c : Bool) → ((a && b) && c) ≡ (a && (b && c))
and_regroups true b c = refl
and_regroups false b c = refl

-- an offset of the range, by its index
pub range_told : (f : Format) (s : Kept) (v : SenderView) (says : ℕ → Bool) (from below lo hi k : ℕ) → Keeps f s v → lo ≡ from - s.cum - 1 → hi ≡ below - s.cum - 1 → k < length s.items
    → passes_between says s.cum lo hi k ≡ (nat_le from (suc (v.cum + k)) && (nat_lt (suc (v.cum + k)) below && says (suc (v.cum + k))))
range_told f s v says from below lo hi k h low high lt =
    let i = suc (v.cum + k) in
    let cum = h.holds.cum in
    rw (low ∙ ap (λ (c : ℕ). from - c - 1) cum, high ∙ ap (λ (c : ℕ). below - c - 1) cum, offsets_between v.cum from below k, index_fits f s v k h lt)
    (and_regroups (nat_le from i) (nat_lt i below) (says i))

-- in flight
pub flight_agrees : (f : Format) (s : Kept) (v : SenderView) (says told : ℕ → Bool) (from below lo hi k : ℕ) → Keeps f s v → AgreeInFlight v from below says told → lo ≡ from - s.cum - 1 → hi ≡ below - s.cum - 1
    → k < length s.items → passes_at v.plan (is_in_flight v) (suc (v.cum + k)) ≡ true → passes_between says s.cum lo hi k ≡ told (suc (v.cum + k))
flight_agrees f s v says told from below lo hi k h agree low high lt flies =
    range_told f s v says from below lo hi k h low high lt ∙ sym (agree (suc (v.cum + k)) (omega arith) flies)

-- above CUM
pub above_agrees : (f : Format) (s : Kept) (v : SenderView) (says told : ℕ → Bool) (from below lo hi k : ℕ) → Keeps f s v → AgreeAbove v from below says told → lo ≡ from - s.cum - 1 → hi ≡ below - s.cum - 1
    → k < length s.items → passes_between says s.cum lo hi k ≡ told (suc (v.cum + k))
above_agrees f s v says told from below lo hi k h agree low high lt =
    let long = kept_length f s v h in
    range_told f s v says from below lo hi k h low high lt ∙ sym (agree (suc (v.cum + k)) (omega arith) (omega (arith, long, lt)))

-- ---- the first in flight

-- the test of an index for `first_in_flight`
abbrev On : SenderView → (ℕ → Bool) → ℕ → Bool
On v told = passes_at v.plan (λ i e. told i && is_in_flight v i e)

on_split : (v : SenderView) (told : ℕ → Bool) (i : ℕ) → On v told i ≡ (told i && passes_at v.plan (is_in_flight v) i)
on_split v told i = grind arith

-- at an offset that is walked over
abbrev Walked : (says : ℕ → Bool) → (lo hi : ℕ) → Kept → ℕ → Bool
Walked says lo hi s k = (nat_le lo k && nat_lt k hi) && flies_and_passes says s.cum s.items k

on_above : (f : Format) (s : Kept) (v : SenderView) (says told : ℕ → Bool) (from below lo hi k : ℕ) → Keeps f s v → AgreeInFlight v from below says told → lo ≡ from - s.cum - 1 → hi ≡ below - s.cum - 1
    → On v told (suc (v.cum + k)) ≡ Walked says lo hi s k
on_above f s v says told from below lo hi k h agree low high = on_split v told i ∙ by_flight (passes_at v.plan (is_in_flight v) i) refl
  where
    i : ℕ
    i = suc (v.cum + k)

    here : passes_here is_item_flying s.items k ≡ passes_at v.plan (is_in_flight v) i
    here = kept_passes f s v is_item_flying k h

    by_flight : (b : Bool) → passes_at v.plan (is_in_flight v) i ≡ b → (told i && b) ≡ Walked says lo hi s k
    by_flight true flies =
        let on = here ∙ flies in
        let same = flight_agrees f s v says told from below lo hi k h agree low high (passing_within is_item_flying s.items k on) flies in
        rw (← same, on) (grind arith)
    by_flight false rests = let off = here ∙ rests in rw off (grind arith)

on_below : (v : SenderView) (told : ℕ → Bool) (j : ℕ) → IsBounded v → 0 < j → j ≤ v.cum → On v told j ≡ false
on_below v told j h some le = grind (arith, h.covered j some le)

-- no index passes of which that is so
all_off : (f : Format) (s : Kept) (v : SenderView) (told : ℕ → Bool) (j : ℕ) → Keeps f s v → 0 < j → ((k : ℕ) → suc (v.cum + k) ≡ j → On v told (suc (v.cum + k)) ≡ false) → On v told j ≡ false
all_off f s v told j h some off = elim (cases_lt v.cum j) [
  | inl past ↦
      let is : suc (v.cum + (j - suc v.cum)) ≡ j = omega (arith, past) in
      subst (λ (m : ℕ). On v told m ≡ false) is (off (j - suc v.cum) is)
  | inr low ↦ on_below v told j (is_bounded f v h.reached) some low
]

-- what isn't found isn't walked over
walked_off : (says : ℕ → Bool) (lo hi : ℕ) (s : Kept) (k : ℕ) → (lo ≤ k → k < hi → flies_and_passes says s.cum s.items k ≡ false) → Walked says lo hi s k ≡ false
walked_off says lo hi s k off = by_tests (nat_le lo k) refl (nat_lt k hi) refl
  where
    by_tests : (a : Bool) → nat_le lo k ≡ a → (b : Bool) → nat_lt k hi ≡ b → ((a && b) && flies_and_passes says s.cum s.items k) ≡ false
    by_tests true lower true upper = off (grind (arith, nat_tests)) (grind (arith, nat_tests))
    by_tests true lower false upper = refl
    by_tests false lower b upper = refl

-- the first one, as the code finds it
pub first_told : (f : Format) (s : Kept) (v : SenderView) (says told : ℕ → Bool) (from below lo hi : ℕ) (xs : List Item) (o : Option ℕ) → Keeps f s v → AgreeInFlight v from below says told → xs ≡ s.items
    → lo ≡ from - s.cum - 1 → hi ≡ below - s.cum - 1 → FirstAnswer (flies_and_passes says s.cum xs) lo hi o → option_map (index_of s.cum) o ≡ first_in_flight v told
first_told f s v says told from below lo hi xs o h agree items low high first = by_option o (subst (λ (ys : List Item). FirstAnswer (flies_and_passes says s.cum ys) lo hi o) items first)
  where
    walked : (k : ℕ) → On v told (suc (v.cum + k)) ≡ Walked says lo hi s k
    walked k = on_above f s v says told from below lo hi k h agree low high

    by_option : (p : Option ℕ) → FirstAnswer (flies_and_passes says s.cum s.items) lo hi p → option_map (index_of s.cum) p ≡ first_in_flight v told
    by_option None off = sym (lowest_none (On v told) (length v.plan.entries) (λ j some le. all_off f s v told j h some (λ k is. walked k ∙ walked_off says lo hi s k (off k))))
    by_option (Some at) is =
        let above = is.above in
        let under = is.below in
        let passes = is.passes in
        let long = kept_length f s v h in
        let flies : passes_here is_item_flying s.items at ≡ true = grind arith in
        let lt = passing_within is_item_flying s.items at flies in
        let lower : nat_le lo at ≡ true = grind (arith, nat_tests) in
        let upper : nat_lt at hi ≡ true = grind (arith, nat_tests) in
        ap Some (index_fits f s v at h lt)
        ∙ sym (lowest_found (On v told) (length v.plan.entries) (suc (v.cum + at)) (record {
          some = omega arith;
          within = omega (arith, long, lt);
          passes = walked at ∙ rw (lower, upper, passes) refl;
          first = λ j some less. all_off f s v told j h some (λ k same. walked k ∙ walked_off says lo hi s k (λ le hi. is.before k le (omega (arith, same, less))));
        }))
