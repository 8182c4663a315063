-- From which moment on the message of a ticket is to expire, as what is kept of it tells.
use Rattle.std.proofs.Common.{◌≡◌, ℕ, zero, suc, ◌+◌, ◌<◌, ◌≤◌, ◌⊎◌, inl, inr, List, [], ◌∷◌, length, drop, Bool, true, false, Option, Some, None, refl, sym, ap, ◌∙◌, arith}
use Rattle.std.specs.Prelude.{◌==◌, not, ◌&&◌, if◌then◌else◌, option_map, option_and_then, find, slice_get}
use Rattle.std.specs.Option.{option_map_or}
use Rattle.std.proofs.lemmas.Bool.{false_from_ne_true}
use Rattle.sctp_model.specs.messages.Format.{Format}
use Rattle.sctp_model.specs.messages.Plan.{Message, Entry, message_at}
use Rattle.sctp_model.specs.sender.SenderView.{Queued, SenderView}
use Rattle.sctp_model.specs.sender.Words.{first_there, some_passes}
use Rattle.sctp_model.specs.sender.Entries.{continued, entry_message}
use Rattle.sctp_model.specs.sender.Abandoning.{Name, name_at, name_of, waits, has_ticket, is_past, is_overdue, is_abandoned, is_covered, may_abandon, may_abandon_named, is_to_expire}
use Rattle.sctp_model.specs.sender.Reached.{IsReached}
use Rattle.sctp_model.proofs.sender.OwnLaws.{AllOwn, found_owns}
use Rattle.sctp_model.proofs.sender.TicketLaws.{is_ticketed}
use Rattle.sctp_model.proofs.sender.NameLaws.{continued_owns}
use Rattle.sctp_model.proofs.sender.ExpiredLaws.{all_own_drop}
use Rattle.sctp_send.specs.SenderKept.{Item, Rest, Track, Kept}
use Rattle.sctp_send.specs.SenderStands.{item_here, items_from, table, rest_here, track_here, fate_here, fate_named, Keeps}
use Rattle.sctp_send.specs.inner.Expiring.{rest_message}
use Rattle.sctp_send.specs.inner.Walks.{is_numbered_fate, any_rest, any_uncovered}
use Rattle.sctp_send.specs.inner.Dues.{has_come, IsUntilOf, IsOpenUntil}
use Rattle.sctp_send.specs.declared.kept.message.Fate.{Fate}
use Rattle.sctp_send.specs.declared.kept.message.Fate.TheVariants.{Queued as StillQueued, Numbered, Withdrawn, Abandoned as WasAbandoned}
use Rattle.sctp_send.proofs.QueueLemmas.{fates_given}
use Rattle.sctp_send.proofs.abandon.EndLemmas.{get-table}
use Rattle.sctp_send.proofs.abandon.AbandonedLemmas.{kept_name}
use Rattle.sctp_send.proofs.abandon.AnswerLemmas.{answered_abandoned, abandoned_may, whole_is}

with_true : (b : Bool) → (b && true) ≡ b
with_true b = grind arith

-- ---- where nothing may be abandoned

not_to_expire : (v : SenderView) (now t : ℕ) → may_abandon v t ≡ false → is_to_expire v now t ≡ false
not_to_expire v now t off = grind (arith, off)

-- no message has the ticket
nothing_late : (v : SenderView) (now t : ℕ) → waits t v.queue ≡ false → name_of v t ≡ None → is_to_expire v now t ≡ false
nothing_late v now t off none = not_to_expire v now t (ap (λ (o : Option Name). option_map_or (may_abandon_named v) o (waits t v.queue)) none ∙ off)

-- the message with a number may not be
named_late : (v : SenderView) (now t : ℕ) (n : Name) → name_of v t ≡ Some n → may_abandon_named v n ≡ false → is_to_expire v now t ≡ false
named_late v now t n is off = not_to_expire v now t (ap (λ (o : Option Name). option_map_or (may_abandon_named v) o (waits t v.queue)) is ∙ off)

-- a ticket that was not given
pub unknown_late : (f : Format) (s : Kept) (v : SenderView) (now t : ℕ) → Keeps f s v → (t ≡ 0) ⊎ (length s.fates < t) → is_to_expire v now t ≡ false
unknown_late f s v now t k out = by_name (name_of v t) refl
  where
    never : 0 < t → t ≤ v.tickets → ⊥
    never low high = let given = fates_given f s v k in elim out [
      | inl none ↦ omega arith
      | inr over ↦ omega (arith, given)
    ]

    by_name : (o : Option Name) → name_of v t ≡ o → is_to_expire v now t ≡ false
    by_name None is = nothing_late v now t (false_from_ne_true _ (λ on. let w = (is_ticketed f v k.reached).waiting t on in never w.0 w.1)) is
    by_name (Some n) is = let own = found_owns v.plan v.tickets t v.plan.entries v.plan.entries n (is_ticketed f v k.reached).owned is in let low = own.0 t own.1 in absurd (never low.0 low.1)

-- ---- by its fate

-- what the fate of a ticket tells
abbrev pub LateBy : SenderView → (ticket : ℕ) → Fate → Type 0
LateBy v t StillQueued = waits t v.queue ≡ true
LateBy v t Numbered = Unit {0}
LateBy v t Withdrawn = (now : ℕ) → is_to_expire v now t ≡ false
LateBy v t WasAbandoned = (now : ℕ) → is_to_expire v now t ≡ false

pub late_by : (v : SenderView) (t : ℕ) → LateBy v t (fate_here v t)
late_by v t = by_wait (waits t v.queue) refl
  where
    by_kept : (n : Name) → name_of v t ≡ Some n → (b : Bool) → is_abandoned v n ≡ b → LateBy v t (if b then WasAbandoned else Numbered)
    by_kept n is false kept = tt
    by_kept n is true on = λ now. named_late v now t n is (grind (arith, on))

    by_name : waits t v.queue ≡ false → (o : Option Name) → name_of v t ≡ o → LateBy v t (fate_named v o)
    by_name off None is = λ now. nothing_late v now t off is
    by_name off (Some n) is = by_kept n is (is_abandoned v n) refl

    by_wait : (b : Bool) → waits t v.queue ≡ b → LateBy v t (if b then StillQueued else fate_named v (name_of v t))
    by_wait true on = on
    by_wait false off = by_name off (name_of v t) refl

-- ---- a message that waits

pub waiting_moment : (f : Format) (v : SenderView) (now t : ℕ) → IsReached f v → waits t v.queue ≡ true → is_to_expire v now t ≡ has_come now (option_and_then (λ q. q.message.until) (find (λ q. q.message.ticket == t) v.queue))
waiting_moment f v now t h on =
    let none = ((is_ticketed f v h).waiting t on).2 in
    let may : may_abandon v t ≡ true = ap (λ (o : Option Name). option_map_or (may_abandon_named v) o (waits t v.queue)) none ∙ on in
    let message = ap (λ (o : Option Name). some_passes (is_past now) (first_there (option_map (λ q. q.message) (find (λ q. q.message.ticket == t) v.queue) ∷ option_and_then (λ n. message_at v.plan n.lane n.number) o ∷ []))) none in
    ap (λ (b : Bool). is_overdue v now t && b) may ∙ with_true (is_overdue v now t) ∙ message ∙ by_found (find (λ q. q.message.ticket == t) v.queue)
  where
    by_found : (o : Option Queued) → some_passes (is_past now) (first_there (option_map (λ q. q.message) o ∷ None ∷ [])) ≡ has_come now (option_and_then (λ q. q.message.until) o)
    by_found None = refl
    by_found (Some q) = refl

-- ---- a message with a number

none_found : (t : ℕ) (qs : List Queued) → waits t qs ≡ false → find (λ q. q.message.ticket == t) qs ≡ None
none_found t [] off = refl
none_found t (q ∷ qs) off = grind (arith, none_found t qs)

-- it is past its time where its message is
overdue_named : (v : SenderView) (now t : ℕ) (n : Name) → waits t v.queue ≡ false → name_of v t ≡ Some n → is_overdue v now t ≡ some_passes (is_past now) (message_at v.plan n.lane n.number)
overdue_named v now t n off is = grind (arith, none_found t v.queue off, is)

-- a message's moment
past_by : (now : ℕ) (m : Option Message) (r : Option ℕ) → option_and_then (λ x. x.until) m ≡ r → some_passes (is_past now) m ≡ has_come now r
past_by now m r is = grind (arith, is)

-- the message of an entry that has the ticket is the one that the ticket names
owned_item : (v : SenderView) (t : ℕ) (n : Name) (i at : ℕ) (es : List Entry) (x : Item) → AllOwn v.plan v.tickets v.plan.entries es → name_of v t ≡ Some n → slice_get (items_from v i es) at ≡ Some x → has_ticket t x.message ≡ true
    → x.message ≡ message_at v.plan n.lane n.number
owned_item v t n i at [] x own is there has = absurd (cc)
owned_item v t n i zero (e ∷ es) x own is there has =
    let same : item_here v i e ≡ x = cc in
    let message : x.message ≡ entry_message v.plan e = ap (λ (y : Item). y.message) (sym same) in
    let mine = (own.0 t (ap (has_ticket t) (sym message) ∙ has)).2 in
    let name : n ≡ name_at e = let both : Some n ≡ Some (name_at e) = sym is ∙ mine in cc in
    message ∙ ap (λ (y : Name). message_at v.plan y.lane y.number) (sym name)
owned_item v t n i (suc at) (e ∷ es) x own is there has = owned_item v t n (suc i) at es x own.1 is there has

-- so is that of the message in part that has it
owned_rest : (f : Format) (v : SenderView) (t : ℕ) (n : Name) (j : ℕ) (o : Option Entry) → IsReached f v → name_of v t ≡ Some n → continued v.plan j ≡ o → has_ticket t (option_and_then (λ (r : Rest). r.message) (rest_here v.plan o)) ≡ true
    → option_and_then (λ (r : Rest). r.message) (rest_here v.plan o) ≡ message_at v.plan n.lane n.number
owned_rest f v t n j None h is on has = absurd (cc)
owned_rest f v t n j (Some e) h is on has =
    let mine = (continued_owns f v j e h on t has).2 in
    let name : n ≡ name_at e = let both : Some n ≡ Some (name_at e) = sym is ∙ mine in cc in
    ap (λ (y : Name). message_at v.plan y.lane y.number) (sym name)

pub numbered_moment : (f : Format) (s : Kept) (v : SenderView) (now t : ℕ) (r : Option ℕ) → Keeps f s v → is_numbered_fate (fate_here v t) ≡ true → s.partial ≡ true → (not (any_rest t s.tracks) && not (any_uncovered t s.items)) ≡ false
    → IsUntilOf t r s.items s.tracks → is_to_expire v now t ≡ has_come now r
numbered_moment f s v now t r k on free missing until =
    let g = answered_abandoned f s v t k on missing free in
    let n = g.name in
    ap (λ (b : Bool). is_overdue v now t && b) (abandoned_may v t g) ∙ with_true (is_overdue v now t) ∙ overdue_named v now t n g.kept.waits g.kept.named ∙ by_until n g.kept.named until
  where
    by_until : (n : Name) → name_of v t ≡ Some n → IsUntilOf t r s.items s.tracks → some_passes (is_past now) (message_at v.plan n.lane n.number) ≡ has_come now r
    by_until n is (inl x) =
        let own = all_own_drop v.plan v.tickets v.cum v.plan.entries v.plan.entries (is_ticketed f v k.reached).owned in
        let there = ap (λ (xs : List Item). slice_get xs x.at) (sym k.holds.items) ∙ x.there in
        let same = owned_item v t n (suc v.cum) x.at (drop v.cum v.plan.entries) x.item own is there x.has.0 in
        past_by now (message_at v.plan n.lane n.number) r (ap (λ (m : Option Message). option_and_then (λ y. y.until) m) (sym same) ∙ x.has.1)
    by_until n is (inr x) =
        let read : slice_get (table (track_here v) 0 v.streams) x.at ≡ Some x.track = ap (λ (ts : List Track). slice_get ts x.at) (sym k.holds.tracks) ∙ x.there in
        let at_is = get-table (track_here v) 0 v.streams x.at x.track read in
        let track : x.track ≡ track_here v x.at = let same : 0 + x.at ≡ x.at = omega arith in at_is.1 ∙ ap (track_here v) same in
        let has = ap (λ (y : Track). has_ticket t (rest_message y)) (sym track) ∙ x.has.0 in
        let same = owned_rest f v t n x.at (continued v.plan x.at) k.reached is refl has in
        past_by now (message_at v.plan n.lane n.number) r (ap (λ (m : Option Message). option_and_then (λ y. y.until) m) (sym (ap rest_message track ∙ same)) ∙ x.has.1)

-- where messages with a number may not be abandoned, or all of it is covered
pub reliable_late : (f : Format) (s : Kept) (v : SenderView) (now t : ℕ) → Keeps f s v → is_numbered_fate (fate_here v t) ≡ true → s.partial ≡ false → is_to_expire v now t ≡ false
reliable_late f s v now t k on fixed =
    let m = kept_name f v t k.reached on in
    named_late v now t m.0 m.1.named (ap (λ (b : Bool). b && (not (is_abandoned v m.0) && not (is_covered v m.0))) (sym k.holds.partial ∙ fixed))

pub covered_late : (f : Format) (s : Kept) (v : SenderView) (now t : ℕ) → Keeps f s v → is_numbered_fate (fate_here v t) ≡ true → (not (any_rest t s.tracks) && not (any_uncovered t s.items)) ≡ true → is_to_expire v now t ≡ false
covered_late f s v now t k on whole =
    let m = kept_name f v t k.reached on in
    let covered = sym (whole_is f s v t m.0 k m.1) ∙ whole in
    named_late v now t m.0 m.1.named (grind (arith, covered))

-- by what is open of it, or where nothing is
pub open_moment : (f : Format) (s : Kept) (v : SenderView) (now t : ℕ) (r : Option ℕ) → Keeps f s v → is_numbered_fate (fate_here v t) ≡ true → s.partial ≡ true → IsOpenUntil t r s.items s.tracks → is_to_expire v now t ≡ has_come now r
open_moment f s v now t r k on free (inl some) = numbered_moment f s v now t r k on free some.0 some.1
open_moment f s v now t r k on free (inr whole) = covered_late f s v now t k on whole.0 ∙ sym (ap (has_come now) whole.1)
