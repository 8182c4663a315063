-- What a sender tells of itself, from what it keeps.
use Rattle.std.proofs.Common.{◌≡◌, ℕ, zero, suc, ◌+◌, ◌-◌, ◌%◌, ◌^◌, ◌<◌, ◌≤◌, List, [], ◌∷◌, length, drop, Bool, true, false, Option, Some, None, refl, sym, ap, ◌∙◌, ◌⊎◌, inl, inr, arith, get_or, drop-cons}
use Rattle.std.specs.Prelude.{nat_lt, not, ◌&&◌, ◌||◌, ◌==◌, if◌then◌else◌}
use Rattle.std.proofs.lemmas.Bool.Decides.{nat_tests}
use Rattle.sctp_model.specs.numbers.Limits.{WINDOW}
use Rattle.sctp_model.specs.messages.Format.{Format}
use Rattle.sctp_model.specs.messages.Plan.{Entry}
use Rattle.sctp_model.specs.sender.Words.{some_passes}
use Rattle.sctp_model.specs.sender.SenderView.{Queued, SenderView}
use Rattle.sctp_model.specs.sender.Entries.{any_from, some_entry, is_unsettled, in_part}
use Rattle.sctp_model.specs.sender.Readers.{abandoned_run, point, unsettled, drained, outstanding, abandoned}
use Rattle.sctp_model.specs.sender.Abandoning.{Name, waits, name_of, is_abandoned}
use Rattle.sctp_model.proofs.sender.Bounds.{is_bounded}
use Rattle.sctp_model.proofs.sender.OwedLaws.{is_promised, is_windowed}
use Rattle.sctp_model.proofs.sender.TicketLaws.{IsTicketed, is_ticketed, name_of_none, found_owns}
use Rattle.sctp_send.specs.SenderKept.{Item, Kept}
use Rattle.sctp_send.specs.SenderStands.{items_from, fate_here, fate_named, Keeps}
use Rattle.sctp_send.specs.inner.Walks.{abandoned_items, any_unsettled, total, one_if_rest, is_abandoned_fate}
use Rattle.sctp_send.specs.declared.kept.message.Fate.{Fate}
use Rattle.sctp_send.specs.declared.kept.message.Fate.TheVariants.{Queued as StillQueued, Numbered, Abandoned as WasAbandoned}
use Rattle.sctp_send.proofs.KeepLemmas.{kept_length}
use Rattle.sctp_send.proofs.QueueLemmas.{kept_in_part, fates_given}
use Rattle.sctp_send.proofs.TableLemmas.{get_or-table, length-table}

-- ---- walks

pub run_step : (xs : List Item) (at : ℕ) (d : Item) → at < length xs → abandoned_items (drop at xs) ≡ (if (get_or xs at d).abandoned then suc (abandoned_items (drop (suc at) xs)) else 0)
run_step xs at d lt = rw (drop-cons xs at d lt) refl

pub run_items : (v : SenderView) (i : ℕ) (es : List Entry) → abandoned_items (items_from v i es) ≡ abandoned_run v es
run_items v i [] = refl
run_items v i (e ∷ es) = rw (run_items v (suc i) es) refl

pub run_within : (xs : List Item) → abandoned_items xs ≤ length xs
run_within [] = omega arith
run_within (x ∷ xs) = grind (arith, nat_tests, run_within xs)

-- the point
pub point_is : (f : Format) (s : Kept) (v : SenderView) → Keeps f s v → (s.cum + abandoned_items s.items % 2 ^ 32) % 2 ^ 64 ≡ point v
point_is f s v k =
    let run = ap abandoned_items k.holds.items ∙ run_items v (suc v.cum) (drop v.cum v.plan.entries) in
    omega (arith, run, run_within s.items, kept_length f s v k, is_promised f v k.reached, is_windowed f v k.reached, k.holds.cum)

any_items : (v : SenderView) (i : ℕ) (es : List Entry) → any_from (is_unsettled v) i es ≡ any_unsettled (items_from v i es)
any_items v i [] = refl
any_items v i (e ∷ es) = rw (any_items v (suc i) es) refl

-- what no entry below an index passes, only those from there on may
pub any_above : (test : ℕ → Entry → Bool) (i n : ℕ) (es : List Entry) → ((j : ℕ) (e : Entry) → i ≤ j → j < i + n → test j e ≡ false) → n ≤ length es → any_from test i es ≡ any_from test (i + n) (drop n es)
any_above test i zero es off le = let same : i + 0 ≡ i = omega arith in rw same refl
any_above test i (suc n) [] off le = absurd (omega arith)
any_above test i (suc n) (e ∷ es) off le =
    let next : suc i + n ≡ i + suc n = omega arith in
    rw (off i e (omega arith) (omega arith)) (rw next at (any_above test (suc i) n es (λ j d lo hi. off j d (omega arith) (omega arith)) (omega arith)))

pub unsettled_is : (f : Format) (s : Kept) (v : SenderView) → Keeps f s v → (any_unsettled s.items || nat_lt 0 (abandoned_items s.items)) ≡ unsettled v
unsettled_is f s v k =
    let b = is_bounded f v k.reached in
    let one : 1 + v.cum ≡ suc v.cum = omega arith in
    let above = any_above (is_unsettled v) 1 v.cum v.plan.entries (λ j e lo hi. let on = b.covered j (omega arith) (omega arith) in rw on (grind (arith, nat_tests))) b.within in
    let any : any_unsettled s.items ≡ some_entry v (is_unsettled v) = ap any_unsettled k.holds.items ∙ sym (any_items v (suc v.cum) (drop v.cum v.plan.entries)) ∙ sym (rw one at above) in
    let run : abandoned_items s.items ≡ abandoned_run v (drop v.cum v.plan.entries) = ap abandoned_items k.holds.items ∙ run_items v (suc v.cum) (drop v.cum v.plan.entries) in
    rw (any, run) (ap (λ (c : Bool). some_entry v (is_unsettled v) || c) (past v.cum (abandoned_run v (drop v.cum v.plan.entries))))
  where
    past : (c n : ℕ) → nat_lt 0 n ≡ not ((c + n) == c)
    past c n = grind (arith, nat_tests)

-- ---- counts

pub outstanding_is : (f : Format) (s : Kept) (v : SenderView) → Keeps f s v → (length s.items % 2 ^ 32 + total (λ t. one_if_rest t.rest) s.tracks % 2 ^ 32) % 2 ^ 32 ≡ outstanding v
outstanding_is f s v k = omega (arith, kept_length f s v k, kept_in_part f s v k, is_windowed f v k.reached)

-- never more than the window holds
pub outstanding_fits : (f : Format) (s : Kept) (v : SenderView) → Keeps f s v → outstanding v ≤ WINDOW
outstanding_fits f s v k = omega (arith, (is_bounded f v k.reached).within, is_windowed f v k.reached)

pub drained_is : (f : Format) (s : Kept) (v : SenderView) → Keeps f s v → ((length s.queue == 0) && ((total (λ t. one_if_rest t.rest) s.tracks % 2 ^ 32 == 0) && (length s.items == 0))) ≡ drained v
drained_is f s v k =
    let long = kept_length f s v k in
    let parts = kept_in_part f s v k in
    let window = is_windowed f v k.reached in
    let fits : total (λ t. one_if_rest t.rest) s.tracks % 2 ^ 32 ≡ in_part v = omega (arith, long, parts, window) in
    let queue = ap (λ (qs : List Queued). length qs == 0) k.holds.queue in
    let end : (length s.items == 0) ≡ (v.cum == length v.plan.entries) = grind (arith, nat_tests) in
    rw (queue, fits, end) refl

-- ---- fates

-- what became of a ticket that was given
pub fate_at : (f : Format) (s : Kept) (v : SenderView) (t : ℕ) (d : Fate) → Keeps f s v → t < length s.fates → get_or s.fates t d ≡ fate_here v (suc t)
fate_at f s v t d k lt =
    let long = ap (λ (xs : List Fate). length xs) k.holds.fates ∙ length-table (fate_here v) 1 v.tickets in
    ap (λ (xs : List Fate). get_or xs t d) k.holds.fates ∙ get_or-table (fate_here v) 1 v.tickets t d (omega arith) ∙ ap (fate_here v) (let e : 1 + t ≡ suc t = omega arith in e)

pub abandoned_fate : (f : Format) (v : SenderView) (t : ℕ) → IsTicketed v → abandoned v t ≡ is_abandoned_fate (fate_here v t)
abandoned_fate f v t h = by_wait (waits t v.queue) refl
  where
    by_kept : (n : Name) (b : Bool) → b ≡ is_abandoned_fate (if b then WasAbandoned else Numbered)
    by_kept n true = refl
    by_kept n false = refl

    by_name : (o : Option Name) → some_passes (is_abandoned v) o ≡ is_abandoned_fate (fate_named v o)
    by_name None = refl
    by_name (Some n) = by_kept n (is_abandoned v n)

    by_wait : (b : Bool) → waits t v.queue ≡ b → abandoned v t ≡ is_abandoned_fate (if b then StillQueued else fate_named v (name_of v t))
    by_wait true is = ap (some_passes (is_abandoned v)) (h.waiting t is).2
    by_wait false is = by_name (name_of v t)

pub is_abandoned_at : (f : Format) (s : Kept) (v : SenderView) (t : ℕ) (d : Fate) → Keeps f s v → 0 < t → t ≤ length s.fates → is_abandoned_fate (get_or s.fates (t - 1) d) ≡ abandoned v t
is_abandoned_at f s v t d k some le =
    let here : suc (t - 1) ≡ t = omega arith in
    ap is_abandoned_fate (fate_at f s v (t - 1) d k (omega arith) ∙ ap (fate_here v) here) ∙ sym (abandoned_fate f v t (is_ticketed f v k.reached))

-- a ticket that wasn't given names no message
pub not_named : (f : Format) (s : Kept) (v : SenderView) (t : ℕ) → Keeps f s v → (t ≡ 0) ⊎ (length s.fates < t) → name_of v t ≡ None
not_named f s v t k out =
    let given = fates_given f s v k in
    elim out [
      | inr over ↦ name_of_none v t (is_ticketed f v k.reached) (omega arith)
      | inl zeroed ↦ by_name (name_of v t) refl zeroed
    ]
  where
    by_name : (o : Option Name) → name_of v t ≡ o → t ≡ 0 → o ≡ None
    by_name None is none = refl
    by_name (Some n) is none =
        let own = found_owns v.plan v.tickets t v.plan.entries v.plan.entries n (is_ticketed f v k.reached).owned is in
        let low = (own.0 t own.1).0 in
        absurd (omega arith)

pub no_ticket : (f : Format) (s : Kept) (v : SenderView) (t : ℕ) → Keeps f s v → (t ≡ 0) ⊎ (length s.fates < t) → abandoned v t ≡ false
no_ticket f s v t k out = ap (some_passes (is_abandoned v)) (not_named f s v t k out)

-- ---- the readers, branch by branch

pub some_waits : (f : Format) (s : Kept) (v : SenderView) → Keeps f s v → 0 < length s.queue → false ≡ drained v
some_waits f s v k some = grind (arith, nat_tests, drained_is f s v k)

pub some_in_part : (f : Format) (s : Kept) (v : SenderView) → Keeps f s v → length s.queue ≤ 0 → 0 < total (λ t. one_if_rest t.rest) s.tracks % 2 ^ 32 → false ≡ drained v
some_in_part f s v k none some = grind (arith, nat_tests, drained_is f s v k)

pub nothing_waits : (f : Format) (s : Kept) (v : SenderView) → Keeps f s v → length s.queue ≤ 0 → total (λ t. one_if_rest t.rest) s.tracks % 2 ^ 32 ≤ 0 → (length s.items == 0) ≡ drained v
nothing_waits f s v k none parts = grind (arith, nat_tests, drained_is f s v k)

pub some_is_unsettled : (f : Format) (s : Kept) (v : SenderView) → Keeps f s v → any_unsettled s.items ≡ true → true ≡ unsettled v
some_is_unsettled f s v k any = rw any at (unsettled_is f s v k)

pub point_alone : (f : Format) (s : Kept) (v : SenderView) → Keeps f s v → any_unsettled s.items ≡ false → nat_lt 0 (abandoned_items s.items) ≡ unsettled v
point_alone f s v k any = rw any at (unsettled_is f s v k)
