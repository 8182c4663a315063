-- What a view says of an index above CUM, by the item that is kept of it; the first index in flight, and what isn't timed any more.
use Rattle.std.proofs.Common.{◌≡◌, ℕ, zero, suc, ◌+◌, ◌-◌, ◌*◌, ◌%◌, ◌^◌, ◌<◌, ◌≤◌, ◌∙◌, List, [], ◌∷◌, length, drop, Bool, true, false, Option, Some, None, refl, sym, ap, arith}
use Rattle.std.specs.Prelude.{◌||◌, slice_get, option_map}
use Rattle.sctp_model.specs.messages.Format.{Format}
use Rattle.sctp_model.specs.messages.Plan.{Entry, entry_at}
use Rattle.sctp_model.specs.sender.SenderView.{SenderView}
use Rattle.sctp_model.specs.sender.Words.{some_passes}
use Rattle.sctp_model.specs.sender.Entries.{in_flight}
use Rattle.sctp_model.proofs.sender.PointLaws.{get-drop}
use Rattle.sctp_model.proofs.sender.Bounds.{is_bounded}
use Rattle.sctp_model.proofs.sender.OwedLaws.{is_promised, is_windowed}
use Rattle.sctp_send.specs.SenderKept.{Item, Kept}
use Rattle.sctp_send.specs.SenderStands.{item_here, items_from, Keeps}
use Rattle.sctp_send.specs.inner.Wishing.{item_flight}
use Rattle.sctp_send.specs.inner.Weighing.{is_item_done, passes_here}
use Rattle.sctp_send.proofs.KeepLemmas.{kept_length}
use Rattle.sctp_send.proofs.fill.RoomLemmas.{flight_kept}

-- ---- the item of an index above CUM

items_get : (v : SenderView) (i : ℕ) (es : List Entry) (k : ℕ) → slice_get (items_from v i es) k ≡ option_map (item_here v (i + k)) (slice_get es k)
items_get v i [] k = refl
items_get v i (e ∷ es) zero = let same : i + 0 ≡ i = omega arith in rw same refl
items_get v i (e ∷ es) (suc k) = let next : suc i + k ≡ i + suc k = omega arith in rw next at (items_get v (suc i) es k)

pub kept_get : (f : Format) (s : Kept) (v : SenderView) (k : ℕ) → Keeps f s v → slice_get s.items k ≡ option_map (item_here v (suc (v.cum + k))) (entry_at v.plan (suc (v.cum + k)))
kept_get f s v k h =
    let index : suc v.cum + k ≡ suc (v.cum + k) = omega arith in
    ap (λ (xs : List Item). slice_get xs k) h.holds.items ∙ rw index at (items_get v (suc v.cum) (drop v.cum v.plan.entries) k) ∙ ap (option_map (item_here v (suc (v.cum + k)))) (sym (get-drop v.cum v.plan.entries k))

passes_mapped : (test : Item → Bool) (g : Entry → Item) (o : Option Entry) → some_passes test (option_map g o) ≡ some_passes (λ e. test (g e)) o
passes_mapped test g None = refl
passes_mapped test g (Some e) = refl

pub kept_passes : (f : Format) (s : Kept) (v : SenderView) (test : Item → Bool) (k : ℕ) → Keeps f s v → passes_here test s.items k ≡ some_passes (λ e. test (item_here v (suc (v.cum + k)) e)) (entry_at v.plan (suc (v.cum + k)))
kept_passes f s v test k h = ap (some_passes test) (kept_get f s v k h) ∙ passes_mapped test (item_here v (suc (v.cum + k))) (entry_at v.plan (suc (v.cum + k)))

-- an offset that passes is one of the items
pub passing_within : (test : Item → Bool) (xs : List Item) (k : ℕ) → passes_here test xs k ≡ true → k < length xs
passing_within test [] k on = absurd (cc)
passing_within test (x ∷ xs) zero on = omega arith
passing_within test (x ∷ xs) (suc k) on = let lt = passing_within test xs k on in omega (arith, lt)

-- indexes fit their bits
pub index_fits : (f : Format) (s : Kept) (v : SenderView) (at : ℕ) → Keeps f s v → at < length s.items → (s.cum + at + 1) % 2 ^ 64 ≡ suc (v.cum + at)
index_fits f s v at h low =
    let long = kept_length f s v h in
    let most = is_promised f v h.reached in
    let cum = h.holds.cum in
    omega (arith, long, low, most, cum)

-- ---- what is said of an index, from 1 on above CUM

pub index_is : (f : Format) (s : Kept) (v : SenderView) (test : Item → Bool) (on : ℕ → Bool) (j : ℕ) → Keeps f s v → 0 < j → ((i : ℕ) (e : Entry) → test (item_here v i e) ≡ on i) → ((i : ℕ) → length v.plan.entries < i → on i ≡ false)
    → passes_here test s.items (j - 1) ≡ on (v.cum + j)
index_is f s v test on j k some here beyond = kept_passes f s v test (j - 1) k ∙ by_entry ∙ ap on at
  where
    at : suc (v.cum + (j - 1)) ≡ v.cum + j
    at = omega (arith, some)

    past : (es : List Entry) (n : ℕ) → slice_get es n ≡ None → length es ≤ n
    past [] n none = omega arith
    past (e ∷ es) zero none = absurd (cc)
    past (e ∷ es) (suc n) none = let le = past es n none in omega (arith, le)

    by_entry : some_passes (λ e. test (item_here v (suc (v.cum + (j - 1))) e)) (entry_at v.plan (suc (v.cum + (j - 1)))) ≡ on (suc (v.cum + (j - 1)))
    by_entry = grind (arith, past v.plan.entries (v.cum + (j - 1)), beyond (suc (v.cum + (j - 1))), here)

done_is : (f : Format) (s : Kept) (v : SenderView) (i : ℕ) → Keeps f s v → v.cum < i → passes_here is_item_done s.items (i - v.cum - 1) ≡ (v.marked i || v.covered i)
done_is f s v i h past =
    let b = is_bounded f v h.reached in
    let is : v.cum + (i - v.cum) ≡ i = omega (arith, past) in
    index_is f s v is_item_done (λ j. v.marked j || v.covered j) (i - v.cum) h (omega (arith, past)) (λ j e. refl) (λ j lt. rw (b.unmarked j lt, b.uncovered j lt) refl) ∙ ap (λ (j : ℕ). v.marked j || v.covered j) is

pub done_told : (f : Format) (s : Kept) (v : SenderView) (i at : ℕ) (xs : List Item) → Keeps f s v → xs ≡ s.items → at ≡ i - s.cum - 1 → s.cum < i → passes_here is_item_done xs at ≡ (v.marked i || v.covered i)
done_told f s v i at xs h items is past =
    let cum = h.holds.cum in
    ap (λ (ys : List Item). passes_here is_item_done ys at) items ∙ ap (passes_here is_item_done s.items) (is ∙ ap (λ (c : ℕ). i - c - 1) cum) ∙ done_is f s v i h (omega (arith, cum, past))

pub covered_is : (f : Format) (s : Kept) (v : SenderView) (i : ℕ) → Keeps f s v → 0 < i → i ≤ s.cum → true ≡ (v.marked i || v.covered i)
covered_is f s v i h some le =
    let cum = h.holds.cum in
    let on = (is_bounded f v h.reached).covered i some (omega (arith, cum, le)) in
    grind (arith, on)

-- ---- what is in flight

flight_is : (f : Format) (s : Kept) (v : SenderView) → Keeps f s v → item_flight s.items ≤ length s.items * 65535 → item_flight s.items % 2 ^ 64 ≡ in_flight v
flight_is f s v h few =
    let long = kept_length f s v h in
    let window = is_windowed f v h.reached in
    let same = flight_kept f s v h in
    omega (arith, long, window, same, few)

pub flight_told : (f : Format) (s : Kept) (v : SenderView) (flying many : ℕ) (xs : List Item) → Keeps f s v → xs ≡ s.items → many ≡ length s.items → flying ≡ item_flight xs % 2 ^ 64 → item_flight xs ≤ many * 65535 → flying ≡ in_flight v
flight_told f s v flying many xs h items count is few =
    let same = ap item_flight items in
    is ∙ ap (λ (n : ℕ). n % 2 ^ 64) same ∙ flight_is f s v h (rw (same, count) at few)
