-- What a SACK takes back, offset by offset, and what a view says of it.
use Rattle.std.proofs.Common.{inl, inr, ◌≡◌, ℕ, suc, ◌+◌, ◌-◌, ◌<◌, ◌≤◌, ◌∙◌, List, [], ◌∷◌, ◌++◌, length, map, Bool, true, false, None, refl, sym, ap, subst, arith, append-nil}
use Rattle.std.specs.Prelude.{nat_le, nat_lt, not, ◌&&◌, ◌==◌}
use Rattle.std.specs.List.{list_any, All}
use Rattle.std.proofs.lemmas.List.Elements.{All-from_recursion}
use Rattle.std.proofs.lemmas.Bool.{cases_lt, false≢true}
use Rattle.std.proofs.lemmas.Bool.Decides.{nat_tests}
use Rattle.std.proofs.lemmas.Option.{slice_get_past}
use Rattle.sctp_model.specs.messages.Format.{Format}
use Rattle.sctp_model.specs.messages.Acknowledgement.{in_blocks}
use Rattle.sctp_model.specs.wire.Chunk.{BlockMeaning}
use Rattle.sctp_model.specs.sender.SenderView.{SenderView}
use Rattle.sctp_model.specs.sender.Words.{some_passes, when}
use Rattle.sctp_model.specs.sender.SackTaken.{some_is_bad, sack_covers}
use Rattle.sctp_model.specs.end.Misses.{is_taken_back}
use Rattle.sctp_model.proofs.sender.Bounds.{is_bounded}
use Rattle.sctp_send.specs.SenderKept.{Item, Kept}
use Rattle.sctp_send.specs.SenderStands.{Keeps}
use Rattle.sctp_send.specs.CoveredRuns.{AreCovered}
use Rattle.sctp_send.specs.FillAnswers.{AreRising}
use Rattle.sctp_send.specs.PaceAnswers.{AreTakenBack}
use Rattle.sctp_send.specs.declared.kept.entry.CoveredRun.{CoveredRun}
use Rattle.sctp_send.specs.inner.Acknowledging.{block_fault}
use Rattle.sctp_send.specs.inner.Dues.{LieIn}
use Rattle.sctp_send.specs.inner.Testing.{index_of, offsets_that}
use Rattle.sctp_send.specs.inner.Weighing.{is_item_acked, passes_here, is_uncovered, IsAfter}
use Rattle.sctp_send.proofs.KeepLemmas.{kept_length}
use Rattle.sctp_send.proofs.pace.AfterLemmas.{shifted_blocks}
use Rattle.sctp_send.proofs.pace.BlockLemmas.{covers_passed, covers_blocks}
use Rattle.sctp_send.proofs.pace.OffsetLemmas.{indexes, offsets_all, offsets_same, offsets_none, offsets_cut, offsets_split, any_offsets, offsets_rising, offsets_within, offsets_fit}
use Rattle.sctp_send.proofs.pace.PaceViews.{index_fits, index_is}
use Rattle.sctp_send.proofs.sack.WakeLemmas.{covered_lies}

-- ---- block by block

pub good_blocks : (last : ℕ) (bs : List BlockMeaning) → block_fault last bs ≡ None → some_is_bad 0 bs ≡ false
good_blocks last bs none = grind (arith, none)

pub none_uncovered : (xs : List Item) (n : ℕ) (bs : List BlockMeaning) (k : ℕ) → sack_covers n bs (suc k) ≡ true → is_uncovered xs n bs k ≡ false
none_uncovered xs n bs k on = rw on (both_off (passes_here is_item_acked xs k))
  where
    both_off : (b : Bool) → (b && false) ≡ false
    both_off true = refl
    both_off false = refl

pub all_uncovered : (xs : List Item) (n : ℕ) (bs : List BlockMeaning) (k : ℕ) → sack_covers n bs (suc k) ≡ false → is_uncovered xs n bs k ≡ passes_here is_item_acked xs k
all_uncovered xs n bs k off = rw off (both_on (passes_here is_item_acked xs k))
  where
    both_on : (b : Bool) → (b && true) ≡ b
    both_on true = refl
    both_on false = refl

-- before a block all that was acknowledged is taken back, and in it nothing
pub gap_uncovered : (xs : List Item) (n : ℕ) (bs : List BlockMeaning) (at before end : ℕ) → at ≤ before → before ≤ end → ((k : ℕ) → at ≤ k → k < before → sack_covers n bs (suc k) ≡ false) → ((k : ℕ) → before ≤ k → k < end → sack_covers n bs (suc k) ≡ true)
    → offsets_that (is_uncovered xs n bs) 0 end ≡ offsets_that (is_uncovered xs n bs) 0 at ++ offsets_that (passes_here is_item_acked xs) at (before - at)
gap_uncovered xs n bs at before end lo hi off on =
    let t : ℕ → Bool = is_uncovered xs n bs in
    let gap : offsets_that t at (before - at) ≡ offsets_that (passes_here is_item_acked xs) at (before - at) = offsets_same t (passes_here is_item_acked xs) at (before - at) (λ k le lt. all_uncovered xs n bs k (off k le (omega (arith, lo, lt)))) in
    let block : offsets_that t before (end - before) ≡ [] = offsets_none t before (end - before) (λ k le lt. none_uncovered xs n bs k (on k le (omega (arith, hi, lt)))) in
    offsets_cut t at end (omega (arith, lo, hi)) ∙ ap (λ (ks : List ℕ). offsets_that t 0 at ++ ks)
    (offsets_split t at before end lo hi ∙ ap (λ (ks : List ℕ). offsets_that t at (before - at) ++ ks) block ∙ append-nil (offsets_that t at (before - at)) ∙ gap)

-- behind all blocks too all that was acknowledged
pub last_uncovered : (xs : List Item) (n : ℕ) (bs : List BlockMeaning) (at end : ℕ) → ((k : ℕ) → end ≤ k → passes_here is_item_acked xs k ≡ false) → ((k : ℕ) → at ≤ k → sack_covers n bs (suc k) ≡ false)
    → offsets_that (is_uncovered xs n bs) 0 end ≡ offsets_that (is_uncovered xs n bs) 0 at ++ offsets_that (passes_here is_item_acked xs) at (end - at)
last_uncovered xs n bs at end past off =
    let t : ℕ → Bool = is_uncovered xs n bs in
    let gap : offsets_that t at (end - at) ≡ offsets_that (passes_here is_item_acked xs) at (end - at) = offsets_same t (passes_here is_item_acked xs) at (end - at) (λ k lo hi. all_uncovered xs n bs k (off k lo)) in
    sym (offsets_all t at end (λ k le. rw (past k le) refl)) ∙ ap (λ (ks : List ℕ). offsets_that t 0 at ++ ks) gap

-- ---- by a view

-- an offset is taken back just where its index is
back_is : (f : Format) (s : Kept) (v u : SenderView) (n k : ℕ) (bs : List BlockMeaning) → Keeps f s v → IsAfter v u (sack_covers n bs) n → is_uncovered s.items n bs k ≡ is_taken_back v u (suc (v.cum + k))
back_is f s v u n k bs h after =
    let index : v.cum + suc k ≡ suc (v.cum + k) = omega arith in
    let one : suc k - 1 ≡ k = omega arith in
    let b = is_bounded f v h.reached in
    let acked : passes_here is_item_acked s.items k ≡ (v.sent (suc (v.cum + k)) && v.covered (suc (v.cum + k))) =
    rw (one, index) at (index_is f s v is_item_acked (λ i. v.sent i && v.covered i) (suc k) h (omega arith) (λ i e. refl) (λ i lt. rw (b.unsent i lt) refl)) in
    let covers : u.covered (suc (v.cum + k)) ≡ sack_covers n bs (suc k) = rw index at (after.covered (suc k) (omega arith)) in
    rw (acked, covers) (and_regroups (v.sent (suc (v.cum + k))) (v.covered (suc (v.cum + k))) (not (sack_covers n bs (suc k))))
  where
    and_regroups : (a b c : Bool) → ((a && b) && c) ≡ (a && (b && c))
    and_regroups true b c = refl
    and_regroups false b c = refl

pub back_told : (f : Format) (s : Kept) (v u : SenderView) (n : ℕ) (bs : List BlockMeaning) (xs : List Item) (is : List ℕ) → Keeps f s v → IsAfter v u (sack_covers n bs) n → xs ≡ s.items
    → is ≡ map (index_of s.cum) (offsets_that (is_uncovered xs n bs) 0 (length xs)) → AreTakenBack v u is
back_told f s v u n bs xs is k after items listed =
    let t : ℕ → Bool = is_uncovered s.items n bs in
    let long = kept_length f s v k in
    let here : is ≡ indexes v.cum (offsets_that t 0 (length s.items)) =
    listed ∙ ap (λ (ys : List Item). map (index_of s.cum) (offsets_that (is_uncovered ys n bs) 0 (length ys))) items ∙ offsets_fit s.cum v.cum t 0 (length s.items) (λ j lt. index_fits f s v j k (omega (arith, lt))) in
    record {
      those = λ i past.
          let j = i - suc v.cum in
          let index : suc (v.cum + j) ≡ i = omega (arith, past) in
          subst (λ (m : ℕ). list_any (λ x. x == m) is ≡ is_taken_back v u m) index
          (ap (list_any (λ x. x == suc (v.cum + j))) here ∙ any_offsets v.cum t 0 (length s.items) j ∙ by_length j (nat_lt j (length s.items)) refl ∙ back_is f s v u n j bs k after);
      rising = subst (AreRising v.cum) (sym here) (offsets_rising v.cum t 0 (length s.items) v.cum (omega arith));
      within = subst (All (λ i. i ≤ length v.plan.entries)) (sym here) (All-from_recursion (λ i. i ≤ length v.plan.entries) _ (offsets_within v.cum t 0 (length s.items) (length v.plan.entries) (omega (arith, long))));
    }
  where
    by_length : (j : ℕ) (b : Bool) → nat_lt j (length s.items) ≡ b → ((nat_le 0 j && nat_lt j (0 + length s.items)) && is_uncovered s.items n bs j) ≡ is_uncovered s.items n bs j
    by_length j true low = let on : (nat_le 0 j && nat_lt j (0 + length s.items)) ≡ true = grind (arith, nat_tests) in rw on refl
    by_length j false past =
        let le : length s.items ≤ j = grind (arith, nat_tests) in
        let off : passes_here is_item_acked s.items j ≡ false = ap (some_passes is_item_acked) (slice_get_past s.items j le) in
        let out : (nat_le 0 j && nat_lt j (0 + length s.items)) ≡ false = grind (arith, nat_tests) in
        rw (out, off) refl

-- ---- nothing is taken back

pub none_back : (v u : SenderView) (is : List ℕ) → is ≡ [] → ((i : ℕ) → v.cum < i → is_taken_back v u i ≡ false) → AreTakenBack v u is
none_back v u is none off =
    subst (AreTakenBack v u) (sym none) (record { those = λ i past. sym (off i past); rising = tt; within = All-from_recursion (λ i. i ≤ length v.plan.entries) [] tt })

back_off : (v u : SenderView) (i : ℕ) → (v.covered i ≡ true → u.covered i ≡ true) → is_taken_back v u i ≡ false
back_off v u i stays = by_tests (v.sent i) (v.covered i) (u.covered i) stays
  where
    by_tests : (a b c : Bool) → (b ≡ true → c ≡ true) → (a && (b && not c)) ≡ false
    by_tests false b c stays = refl
    by_tests true false c stays = refl
    by_tests true true c stays = rw (stays refl) refl

-- the last SACK is known to have no blocks
pub none_known : (v u : SenderView) (known : Bool) (rs : List CoveredRun) (is : List ℕ) → is ≡ [] → known ≡ true → length rs ≡ 0 → AreCovered (when known rs) v.covered v.cum → AreTakenBack v u is
none_known v u false rs is none on empty covered = absurd (cc)
none_known v u true [] is none on empty covered = none_back v u is none (λ i past. back_off v u i (λ there.
    let at : v.cum + (i - v.cum) ≡ i = omega (arith, past) in
    let off = covered.1 (i - v.cum) (omega (arith, past)) in
    absurd (false≢true (sym off ∙ ap v.covered at ∙ there))))
none_known v u true (r ∷ rs) is none on empty covered = absurd (omega (arith, empty))

-- what it acknowledged lies in the blocks of this one
pub none_outside : (v u : SenderView) (known : Bool) (rs : List CoveredRun) (is : List ℕ) (n : ℕ) (bs : List BlockMeaning) → is ≡ [] → known ≡ true → LieIn n rs bs → AreCovered (when known rs) v.covered v.cum
    → IsAfter v u (sack_covers n bs) n → AreTakenBack v u is
none_outside v u known rs is n bs none on lies covered after = none_back v u is none (λ i past. back_off v u i (λ there. elim (cases_lt n (i - v.cum)) [
  | inl beyond ↦
      let at : v.cum + (i - v.cum) ≡ i = omega (arith, past) in
      let here : v.cum + n + (i - v.cum - n) ≡ i = omega (arith, past, beyond) in
      let back : n + (i - v.cum - n) ≡ i - v.cum = omega (arith, past, beyond) in
      let same : n + 0 ≡ n = omega arith in
      let within = covered_lies known rs v.covered v.cum n (i - v.cum - n) bs on covered lies (omega (arith, beyond)) (ap v.covered here ∙ there) in
      let moved : in_blocks n bs (i - v.cum) ≡ in_blocks 0 bs (i - v.cum - n) = rw (same, back) at (shifted_blocks n 0 (i - v.cum - n) bs) in
      sym (ap u.covered at) ∙ after.covered (i - v.cum) (omega (arith, past)) ∙ covers_blocks n (i - v.cum) bs beyond ∙ moved ∙ within
  | inr low ↦
      let at : v.cum + (i - v.cum) ≡ i = omega (arith, past) in
      sym (ap u.covered at) ∙ after.covered (i - v.cum) (omega (arith, past)) ∙ covers_passed n (i - v.cum) bs low
]))
