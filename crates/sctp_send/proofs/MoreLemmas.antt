-- Whether something waits to be sent, from what a sender keeps.
use Rattle.std.proofs.Common.{◌≡◌, ℕ, suc, ◌+◌, ◌%◌, ◌^◌, ◌<◌, ◌≤◌, List, [], ◌∷◌, length, drop, Bool, true, false, Option, Some, None, refl, sym, ap, ◌∙◌, arith}
use Rattle.std.specs.Prelude.{not, is_some, option_map, ◌&&◌, ◌||◌, ◌==◌, if◌then◌else◌}
use Rattle.std.proofs.lemmas.Bool.Decides.{nat_tests}
use Rattle.sctp_model.specs.messages.Format.{Format}
use Rattle.sctp_model.specs.messages.Plan.{Entry}
use Rattle.sctp_model.specs.sender.SenderView.{Queued, SenderView}
use Rattle.sctp_model.specs.sender.Words.{lowest}
use Rattle.sctp_model.specs.sender.Entries.{any_from, some_entry, is_unsent, in_part}
use Rattle.sctp_model.specs.sender.Readers.{has_more}
use Rattle.sctp_model.proofs.sender.Bounds.{is_bounded}
use Rattle.sctp_model.proofs.sender.OwedLaws.{is_windowed}
use Rattle.sctp_send.specs.SenderKept.{Item, Kept}
use Rattle.sctp_send.specs.SenderStands.{items_from, Keeps}
use Rattle.sctp_send.specs.inner.Walks.{total, one_if_rest}
use Rattle.sctp_send.specs.inner.Wishing.{first_offset, is_item_marked, is_item_unsent, some_pending}
use Rattle.sctp_send.proofs.KeepLemmas.{kept_length}
use Rattle.sctp_send.proofs.QueueLemmas.{kept_in_part}
use Rattle.sctp_send.proofs.ReaderLemmas.{any_above}
use Rattle.sctp_send.proofs.fill.WishLemmas.{lowest_offset, none_at_all, marks_agree, none_marked}

-- ---- marks

marks_found : (f : Format) (s : Kept) (v : SenderView) → Keeps f s v → is_some (first_offset is_item_marked s.items) ≡ is_some (lowest v.marked (length v.plan.entries))
marks_found f s v k = by_offset (first_offset is_item_marked s.items) refl
  where
    by_offset : (o : Option ℕ) → first_offset is_item_marked s.items ≡ o → is_some o ≡ is_some (lowest v.marked (length v.plan.entries))
    by_offset None is = ap (λ (o : Option ℕ). is_some o) (sym (none_at_all f s v is_item_marked v.marked k (marks_agree v) (none_marked f v (is_bounded f v k.reached)) is))
    by_offset (Some at) is = ap (λ (o : Option ℕ). is_some o) (sym (lowest_offset f s v is_item_marked v.marked at k (marks_agree v) (none_marked f v (is_bounded f v k.reached)) is))

-- ---- what was never sent

found_or : (b : Bool) (o : Option ℕ) → is_some (if b then Some 0 else option_map suc o) ≡ (b || is_some o)
found_or true o = refl
found_or false None = refl
found_or false (Some n) = refl

unsent_items : (v : SenderView) (i : ℕ) (es : List Entry) → is_some (first_offset is_item_unsent (items_from v i es)) ≡ any_from (is_unsent v) i es
unsent_items v i [] = refl
unsent_items v i (e ∷ es) =
    found_or (is_unsent v i e) (first_offset is_item_unsent (items_from v (suc i) es)) ∙ ap (λ (b : Bool). is_unsent v i e || b) (unsent_items v (suc i) es)

unsent_found : (f : Format) (s : Kept) (v : SenderView) → Keeps f s v → is_some (first_offset is_item_unsent s.items) ≡ some_entry v (is_unsent v)
unsent_found f s v k =
    let b = is_bounded f v k.reached in
    let one : 1 + v.cum ≡ suc v.cum = omega arith in
    let above = any_above (is_unsent v) 1 v.cum v.plan.entries (λ j e lo hi. let on = b.covered j (omega arith) (omega arith) in rw on (grind (arith, nat_tests))) b.within in
    ap (λ (xs : List Item). is_some (first_offset is_item_unsent xs)) k.holds.items ∙ unsent_items v (suc v.cum) (drop v.cum v.plan.entries) ∙ sym (rw one at above)

-- ---- all of it

pub more_is : (f : Format) (s : Kept) (v : SenderView) → Keeps f s v
    → (some_pending s.items || not ((length s.queue == 0) && (total (λ t. one_if_rest t.rest) s.tracks % 2 ^ 32 == 0))) ≡ has_more v
more_is f s v k =
    let long = kept_length f s v k in
    let parts = kept_in_part f s v k in
    let window = is_windowed f v k.reached in
    let fits : total (λ t. one_if_rest t.rest) s.tracks % 2 ^ 32 ≡ in_part v = omega (arith, long, parts, window) in
    let queue = ap (λ (qs : List Queued). length qs == 0) k.holds.queue in
    rw (marks_found f s v k, unsent_found f s v k, queue, fits) (or_regroups (is_some (lowest v.marked (length v.plan.entries))) (some_entry v (is_unsent v)) (not ((length v.queue == 0) && (in_part v == 0))))
  where
    or_regroups : (a b c : Bool) → ((a || b) || c) ≡ (a || (b || c))
    or_regroups true b c = refl
    or_regroups false b c = refl

-- ---- branch by branch

or_true : (a : Bool) → true ≡ (a || true)
or_true true = refl
or_true false = refl

or_false : (a : Bool) → a ≡ (a || false)
or_false true = refl
or_false false = refl

pub more_waits : (f : Format) (s : Kept) (v : SenderView) → Keeps f s v → 0 < length s.queue → true ≡ has_more v
more_waits f s v k some = let off : (length s.queue == 0) ≡ false = grind (arith, nat_tests) in or_true (some_pending s.items) ∙ rw off at (more_is f s v k)

pub more_in_part : (f : Format) (s : Kept) (v : SenderView) → Keeps f s v → length s.queue ≤ 0 → 0 < total (λ t. one_if_rest t.rest) s.tracks % 2 ^ 32 → true ≡ has_more v
more_in_part f s v k none some =
    let on : (length s.queue == 0) ≡ true = grind (arith, nat_tests) in
    let off : (total (λ t. one_if_rest t.rest) s.tracks % 2 ^ 32 == 0) ≡ false = grind (arith, nat_tests) in
    or_true (some_pending s.items) ∙ rw (on, off) at (more_is f s v k)

pub more_pending : (f : Format) (s : Kept) (v : SenderView) → Keeps f s v → length s.queue ≤ 0 → total (λ t. one_if_rest t.rest) s.tracks % 2 ^ 32 ≤ 0 → some_pending s.items ≡ has_more v
more_pending f s v k none idle =
    let on : (length s.queue == 0) ≡ true = grind (arith, nat_tests) in
    let off : (total (λ t. one_if_rest t.rest) s.tracks % 2 ^ 32 == 0) ≡ true = grind (arith, nat_tests) in
    or_false (some_pending s.items) ∙ rw (on, off) at (more_is f s v k)
