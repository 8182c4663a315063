-- A SACK and a SHUTDOWN without a fault, as acknowledgements of offsets above CUM.
use Rattle.std.proofs.Common.{inl, inr, ◌≡◌, ℕ, suc, ◌+◌, ◌-◌, ◌<◌, ◌≤◌, ◌∙◌, List, [], ◌∷◌, length, true, false, Option, Some, None, refl, sym, ap, subst, arith}
use Rattle.std.specs.Prelude.{nat_le, nat_lt, ◌||◌, if◌then◌else◌, is_some}
use Rattle.std.proofs.lemmas.Bool.{cases_lt}
use Rattle.std.proofs.lemmas.Bool.Decides.{nat_tests}
use Rattle.std.proofs.lemmas.Option.{slice_get_past}
use Rattle.sctp_model.specs.wire.Chunk.{BlockMeaning, SackMeaning}
use Rattle.sctp_model.specs.messages.Format.{Format}
use Rattle.sctp_model.specs.messages.Acknowledgement.{in_blocks}
use Rattle.sctp_model.specs.messages.Plan.{Entry, entry_at}
use Rattle.sctp_model.specs.sender.SenderView.{SenderView}
use Rattle.sctp_model.specs.sender.Words.{some_passes}
use Rattle.sctp_model.specs.sender.SackTaken as taken
use Rattle.sctp_model.specs.sender.SackTaken.{is_stale, index_of, some_is_bad, sack_covers, sack_fault, sack_taken, sack_after, shutdown_fault, shutdown_taken, shutdown_after}
use Rattle.sctp_model.specs.sender.Reached.{IsReached, Covers, Closes}
use Rattle.sctp_model.specs.end.Trips.{was_given_up}
use Rattle.sctp_model.proofs.sender.Bounds.{is_bounded}
use Rattle.sctp_send.specs.SenderKept.{Item, Kept}
use Rattle.sctp_send.specs.SenderStands.{item_here, Keeps}
use Rattle.sctp_send.specs.CoveredRuns.{in_runs}
use Rattle.sctp_send.specs.declared.kept.entry.CoveredRun.{CoveredRun}
use Rattle.sctp_send.specs.inner.Acknowledging.{IsPassing}
use Rattle.sctp_send.specs.inner.Weighing.{is_item_closed, is_item_open, is_item_given_up, passes_here, IsAfter, LieCovered}
use Rattle.sctp_send.proofs.pace.BlockLemmas.{covers_passed}
use Rattle.sctp_send.proofs.pace.PaceViews.{kept_passes, index_is}

-- ---- no fault

pub record IsSound (v : SenderView) (x : SackMeaning) : Type 0 where
  pub fresh : is_stale v x.cumulative ≡ false
  pub within : nat_lt (length v.plan.entries) (index_of v x.cumulative) ≡ false
  pub good : some_is_bad 0 x.blocks ≡ false

pub sound : (v : SenderView) (x : SackMeaning) → sack_fault v x ≡ None → IsSound v x
sound v x none = record { fresh = grind (arith, none); within = grind (arith, none); good = grind (arith, none) }

-- ---- what they acknowledge

shifted : (c n j : ℕ) → nat_le (c + j) (c + n) ≡ nat_le j n
shifted c n j = grind (arith, nat_tests)

pub shifted_blocks : (c n j : ℕ) (bs : List BlockMeaning) → in_blocks (c + n) bs (c + j) ≡ in_blocks n bs j
shifted_blocks c n j [] = refl
shifted_blocks c n j (b ∷ bs) = grind (arith, nat_tests, shifted_blocks c n j bs)

pub after_sack : (f : Format) (v : SenderView) (x : SackMeaning) (n : ℕ) → IsReached f v → IsPassing v x.cumulative n → sack_fault v x ≡ None → IsAfter v (sack_after v x) (sack_covers n x.blocks) n
after_sack f v x n h p none = subst (λ (u : SenderView). IsAfter v u (sack_covers n x.blocks) n) (sym is) (record {
  cum = p.index;
  covered = λ j some. rw p.index (covers j);
  passes = covers_passed n n x.blocks (omega arith);
  within = λ i lt. (is_bounded f (sack_taken v x) (Covers v x h none)).uncovered i lt;
})
  where
    is : sack_after v x ≡ sack_taken v x
    is = ap (λ (o : Option taken.SackFault). if is_some o then v else sack_taken v x) none

    covers : (j : ℕ) → sack_covers (v.cum + n) x.blocks (v.cum + j) ≡ sack_covers n x.blocks j
    covers j = rw (shifted v.cum n j, shifted_blocks v.cum n j x.blocks) refl

-- the item at an offset counted from 1
closed_is : (f : Format) (s : Kept) (v : SenderView) (j : ℕ) → Keeps f s v → 0 < j → passes_here is_item_closed s.items (j - 1) ≡ v.covered (v.cum + j)
closed_is f s v j k some = index_is f s v is_item_closed v.covered j k some (λ i e. refl) (is_bounded f v k.reached).uncovered

pub after_shutdown : (f : Format) (s : Kept) (v : SenderView) (wire n : ℕ) → Keeps f s v → IsPassing v wire n → shutdown_fault v wire ≡ None → IsAfter v (shutdown_after v wire) (λ j. nat_le j n || passes_here is_item_closed s.items (j - 1)) n
after_shutdown f s v wire n k p none = subst (λ (u : SenderView). IsAfter v u (λ j. nat_le j n || passes_here is_item_closed s.items (j - 1)) n) (sym is) (record {
  cum = p.index;
  covered = λ j some. rw p.index (covers j some);
  passes = let on : nat_le n n ≡ true = grind (arith, nat_tests) in rw on refl;
  within = λ i lt. (is_bounded f (shutdown_taken v wire) (Closes v wire k.reached none)).uncovered i lt;
})
  where
    is : shutdown_after v wire ≡ shutdown_taken v wire
    is = ap (λ (o : Option taken.SackFault). if is_some o then v else shutdown_taken v wire) none

    covers : (j : ℕ) → 0 < j → (nat_le (v.cum + j) (v.cum + n) || v.covered (v.cum + j)) ≡ (nat_le j n || passes_here is_item_closed s.items (j - 1))
    covers j some = rw (shifted v.cum n j, closed_is f s v j k some) refl

-- ---- items

-- those that lie in the runs are acknowledged
pub lie_covered : (f : Format) (s : Kept) (v : SenderView) (rs : List CoveredRun) → Keeps f s v → ((i : ℕ) → 0 < i → in_runs rs i ≡ true → v.covered (v.cum + i) ≡ true) → LieCovered rs s.items
lie_covered f s v rs k covered = λ j some on.
    let at : suc (v.cum + (j - 1)) ≡ v.cum + j = omega (arith, some) in
    kept_passes f s v is_item_open (j - 1) k ∙ ap (λ (m : ℕ). some_passes (λ e. is_item_open (item_here v m e)) (entry_at v.plan m)) at ∙ closed j (covered j some on) (entry_at v.plan (v.cum + j))
  where
    closed : (j : ℕ) → v.covered (v.cum + j) ≡ true → (o : Option Entry) → some_passes (λ e. is_item_open (item_here v (v.cum + j) e)) o ≡ false
    closed j on None = refl
    closed j on (Some e) = rw on refl

-- beyond what the runs reach none is
pub none_closed : (f : Format) (s : Kept) (v : SenderView) (top : ℕ) → Keeps f s v → ((i : ℕ) → top < i → i ≤ length s.items → v.covered (v.cum + i) ≡ false) → (j : ℕ) → top < j → passes_here is_item_closed s.items (j - 1) ≡ false
none_closed f s v top k off j lt = elim (cases_lt (length s.items) j) [
  | inl past ↦ ap (some_passes is_item_closed) (slice_get_past s.items (j - 1) (omega (arith, past)))
  | inr le ↦ closed_is f s v j k (omega (arith, lt)) ∙ off j lt le
]

-- ---- what is timed

pub given_up_told : (f : Format) (s : Kept) (v : SenderView) (i at : ℕ) (xs : List Item) → Keeps f s v → xs ≡ s.items → at ≡ i - s.cum - 1 → s.cum < i → passes_here is_item_given_up xs at ≡ was_given_up v i
given_up_told f s v i at xs k items is past =
    let cum = k.holds.cum in
    let index : suc (v.cum + (i - v.cum - 1)) ≡ i = omega (arith, cum, past) in
    ap (λ (ys : List Item). passes_here is_item_given_up ys at) items ∙ ap (passes_here is_item_given_up s.items) (is ∙ ap (λ (c : ℕ). i - c - 1) cum)
    ∙ kept_passes f s v is_item_given_up (i - v.cum - 1) k ∙ ap (λ (m : ℕ). some_passes (λ e. is_item_given_up (item_here v m e)) (entry_at v.plan m)) index
