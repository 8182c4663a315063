-- Messages past their time: before its moment no ticket is to expire, and one ticket after the other is done.
use Rattle.std.proofs.Common.{inl, inr, ◌≡◌, ℕ, zero, suc, ◌+◌, ◌-◌, ◌<◌, ◌≤◌, List, [], ◌∷◌, drop, Bool, true, false, Option, Some, None, refl, sym, ap, ◌∙◌, arith}
use Rattle.std.specs.Prelude.{◌==◌, ◌&&◌, ◌||◌, nat_lt, option_map, option_and_then, find}
use Rattle.std.specs.List.{list_any}
use Rattle.std.proofs.lemmas.Bool.{or_cases, false_from_ne_true}
use Rattle.std.proofs.lemmas.Bool.Decides.{nat_tests}
use Rattle.sctp_model.specs.messages.Format.{Format}
use Rattle.sctp_model.specs.messages.Plan.{Message, Entry, Plan}
use Rattle.sctp_model.specs.sender.SenderView.{Queued, SenderView}
use Rattle.sctp_model.specs.sender.Words.{first_there, some_passes, count_up}
use Rattle.sctp_model.specs.sender.Entries.{continued, entry_message}
use Rattle.sctp_model.specs.sender.Abandoning.{Name, is_past, is_overdue, name_of, waits, expire_one, expired, abandon_after, is_to_expire, has_late}
use Rattle.sctp_model.specs.sender.Reached.{IsReached}
use Rattle.sctp_model.proofs.sender.AbandonCases.{after_abandon}
use Rattle.sctp_model.proofs.sender.OwnLaws.{found_owns}
use Rattle.sctp_model.proofs.sender.TicketLaws.{is_ticketed}
use Rattle.sctp_model.proofs.sender.ExpiredLaws.{late_waits, expired_to, expired_next}
use Rattle.sctp_model.proofs.sender.WordLaws.{lowest_none, lowest_found}
use Rattle.sctp_model.proofs.sender.LateLaws.{shown_message, shown_from, late_waiting, late_shown, late_rest, never_late, expires_none}
use Rattle.sctp_send.specs.SenderAnswers.{next_late}
use Rattle.sctp_send.specs.SenderKept.{Item, Rest, Track, Kept}
use Rattle.sctp_send.specs.SenderStands.{items_from, table, rest_here, track_here, Keeps}
use Rattle.sctp_send.specs.inner.Expiring.{queue_messages, rest_message, rest_messages}
use Rattle.sctp_send.specs.inner.Dues.{is_late, some_late, standing_messages, due_at, IsIdle, NextLateAnswer, is_asleep}

late_queue : (now t : ℕ) (qs : List Queued) → some_late now t (queue_messages qs) ≡ late_waits now t qs
late_queue now t [] = refl
late_queue now t (q ∷ qs) = ap (λ (b : Bool). is_late now t (Some q.message) || b) (late_queue now t qs)

late_items : (v : SenderView) (now t : ℕ) (es : List Entry) (i : ℕ) → some_late now t (standing_messages true (items_from v i es)) ≡ shown_from v now t i es
late_items v now t [] i = refl
late_items v now t (e ∷ es) i = ap (λ (b : Bool). is_late now t (shown_message v i e) || b) (late_items v now t es (suc i))

-- what a stream goes on with
rest_of : (p : Plan) (o : Option Entry) → option_and_then (λ (r : Rest). r.message) (rest_here p o) ≡ option_and_then (λ e. entry_message p e) o
rest_of p None = refl
rest_of p (Some e) = refl

late_rests : (v : SenderView) (now t i n : ℕ) → some_late now t (rest_messages (table (track_here v) i n)) ≡ true → (s : ℕ) × (e : Entry) × (continued v.plan s ≡ Some e) × (is_late now t (entry_message v.plan e) ≡ true)
late_rests v now t i zero on = absurd (cc)
late_rests v now t i (suc n) on = elim (or_cases (is_late now t (rest_message (track_here v i))) (some_late now t (rest_messages (table (track_here v) (suc i) n))) on) [
  | inl late ↦ by_next (continued v.plan i) refl (sym (ap (is_late now t) (rest_of v.plan (continued v.plan i))) ∙ late)
  | inr there ↦ late_rests v now t (suc i) n there
]
  where
    by_next : (o : Option Entry) → continued v.plan i ≡ o → is_late now t (option_and_then (λ e. entry_message v.plan e) o) ≡ true → (s : ℕ) × (e : Entry) × (continued v.plan s ≡ Some e) × (is_late now t (entry_message v.plan e) ≡ true)
    by_next None is late = absurd (cc)
    by_next (Some e) is late = (i, e, is, late)

quiet_rests : (v : SenderView) (now t i n : ℕ) → some_late now t (rest_messages (table (track_here v) i n)) ≡ false → (s : ℕ) (e : Entry) → i ≤ s → s < i + n → continued v.plan s ≡ Some e → is_late now t (entry_message v.plan e) ≡ false
quiet_rests v now t i zero off s e lo hi is = absurd (omega arith)
quiet_rests v now t i (suc n) off s e lo hi is =
    grind (arith, rest_of v.plan (continued v.plan i), quiet_rests v now t (suc i) n)

-- ---- what is kept, and the view

clash : {b : Bool} → b ≡ true → b ≡ false → ⊥
clash on off = cc

-- what is covered doesn't make a ticket late
pub fewer_late : (now t : ℕ) (b : Bool) (xs : List Item) → some_late now t (standing_messages b xs) ≡ false → some_late now t (standing_messages true xs) ≡ false
fewer_late now t true xs none = none
fewer_late now t false [] none = refl
fewer_late now t false (x ∷ xs) none = grind (arith, fewer_late now t false xs)

-- an idle ticket isn't to expire
idle_stays : (f : Format) (s : Kept) (v : SenderView) (now t : ℕ) → Keeps f s v → IsIdle s now t → is_to_expire v now t ≡ false
idle_stays f s v now t k i = never_late f v now t k.reached (record {
  queue = sym (late_queue now t v.queue) ∙ ap (λ (qs : List Queued). some_late now t (queue_messages qs)) (sym k.holds.queue) ∙ i.queue;
  entries = λ on.
      let items = fewer_late now t (is_asleep s t) s.items (i.items (k.holds.partial ∙ on)) in
      sym (late_items v now t (drop v.cum v.plan.entries) (suc v.cum)) ∙ ap (λ (xs : List Item). some_late now t (standing_messages true xs)) (sym k.holds.items) ∙ items;
  rests = λ on j e lt is.
      let tracks = ap (λ (ts : List Track). some_late now t (rest_messages ts)) (sym k.holds.tracks) ∙ i.tracks (k.holds.partial ∙ on) in
      quiet_rests v now t 0 v.streams tracks j e (omega arith) (omega arith) is;
})

-- before its moment
pub due_stays : (f : Format) (s : Kept) (v : SenderView) (now t : ℕ) → Keeps f s v → now < due_at s.passed s.moments t → is_to_expire v now t ≡ false
due_stays f s v now t k lt = idle_stays f s v now t k (k.due.each t now lt)

-- a ticket that isn't to expire is idle, but for what is covered
pub stays_idle : (f : Format) (s : Kept) (v : SenderView) (now t : ℕ) (ms : List ℕ) → Keeps f s v → s.passed < t → is_to_expire v now t ≡ false → IsIdle (record s { moments = ms; asleep = true }) now t
stays_idle f s v now t ms k past off = record {
  queue = false_from_ne_true _ (λ is. clash (late_waiting f v now t k.reached (sym (late_queue now t v.queue) ∙ ap (λ (qs : List Queued). some_late now t (queue_messages qs)) (sym k.holds.queue) ∙ is)) off);
  items = λ on.
      let over : nat_lt s.passed t ≡ true = grind (arith, nat_tests) in
      rw over (false_from_ne_true _ (λ is.
      let shown = sym (late_items v now t (drop v.cum v.plan.entries) (suc v.cum)) ∙ ap (λ (xs : List Item). some_late now t (standing_messages true xs)) (sym k.holds.items) ∙ is in
      clash (late_shown f v now t k.reached (sym k.holds.partial ∙ on) shown) off));
  tracks = λ on. false_from_ne_true _ (λ is.
      let rest = late_rests v now t 0 v.streams (ap (λ (ts : List Track). some_late now t (rest_messages ts)) (sym k.holds.tracks) ∙ is) in
      clash (late_rest f v now t rest.0 rest.1 k.reached (sym k.holds.partial ∙ on) rest.2 rest.3) off);
}

-- ---- one ticket after the other

-- the tickets behind the last one, up to this one, change nothing
pub idle_to : (v u : SenderView) (now last k : ℕ) → expired_to now v last ≡ u → ((x : ℕ) → last < x → x ≤ last + k → expire_one now u x ≡ u) → expired_to now v (last + k) ≡ u
idle_to v u now last zero is idle = let same : last + 0 ≡ last = omega arith in ap (expired_to now v) same ∙ is
idle_to v u now last (suc k) is idle =
    let next : last + suc k ≡ suc (last + k) = omega arith in
    let before = idle_to v u now last k is (λ x lo hi. idle x lo (omega arith)) in
    ap (expired_to now v) next ∙ expired_next now (last + k) v ∙ ap (λ (y : SenderView). expire_one now y (suc (last + k))) before ∙ idle (suc (last + k)) (omega arith) (omega arith)

-- a message that is due has a ticket that was given
found_waits : (now t : ℕ) (qs : List Queued) → some_passes (is_past now) (option_map (λ q. q.message) (find (λ q. q.message.ticket == t) qs)) ≡ true → waits t qs ≡ true
found_waits now t [] is = absurd (cc)
found_waits now t (q ∷ qs) is = grind (arith, found_waits now t qs)

pub due_given : (f : Format) (v : SenderView) (now t : ℕ) → IsReached f v → is_overdue v now t ≡ true → t ≤ v.tickets
due_given f v now t h due = by_name (name_of v t) refl due
  where
    first_alone : (o : Option Message) → some_passes (is_past now) (first_there (o ∷ None ∷ [])) ≡ true → some_passes (is_past now) o ≡ true
    first_alone None is = is
    first_alone (Some m) is = is

    by_name : (o : Option Name) → name_of v t ≡ o → is_overdue v now t ≡ true → t ≤ v.tickets
    by_name (Some n) is there = let own = found_owns v.plan v.tickets t v.plan.entries v.plan.entries n (is_ticketed f v h).owned is in (own.0 t own.1).1
    by_name None is there = ((is_ticketed f v h).waiting t (found_waits now t v.queue (first_alone (option_map (λ q. q.message) (find (λ q. q.message.ticket == t) v.queue)) (rw is at there)))).1

-- no ticket is given by it
same_tickets : (v : SenderView) (t : ℕ) → (abandon_after v t).tickets ≡ v.tickets
same_tickets v t = after_abandon (λ u. u.tickets ≡ v.tickets) v t refl (λ on. refl) (λ n is kept. refl)

still_given : (now : ℕ) (v : SenderView) (t : ℕ) → (expired_to now v t).tickets ≡ v.tickets
still_given now v zero = refl
still_given now v (suc t) = grind (arith, expired_next now t v, same_tickets (expired_to now v t) (suc t), still_given now v t)

-- the next ticket whose moment has come: after it, this is left
pub record IsNextDone (v u : SenderView) (now t : ℕ) : Type 0 where
  pub done : expired_to now v t ≡ expire_one now u t
  pub given : u.tickets ≡ v.tickets

pub next_done : (f : Format) (s : Kept) (v u : SenderView) (now last t : ℕ) → Keeps f s u → expired_to now v last ≡ u → last < t → ((x : ℕ) → last < x → x < t → now < due_at s.passed s.moments x) → IsNextDone v u now t
next_done f s v u now last t k is above quiet =
    let gap : last + (t - last - 1) ≡ t - 1 = omega (arith, above) in
    let before : expired_to now v (t - 1) ≡ u = ap (expired_to now v) (sym gap) ∙ idle_to v u now last (t - last - 1) is (λ x lo hi. expires_none u now x (due_stays f s u now x k (quiet x lo (omega (arith, hi, above))))) in
    let here : suc (t - 1) ≡ t = omega (arith, above) in
    record {
      done = ap (expired_to now v) (sym here) ∙ expired_next now (t - 1) v ∙ ap (λ (y : SenderView). expire_one now y (suc (t - 1))) before ∙ ap (expire_one now u) here;
      given = sym (ap (λ (y : SenderView). y.tickets) is) ∙ still_given now v last;
    }

-- where none is left, all is done
pub late_none : (f : Format) (s : Kept) (v u : SenderView) (now last : ℕ) → Keeps f s u → expired_to now v last ≡ u → last ≤ v.tickets → ((x : ℕ) → last < x → now < due_at s.passed s.moments x) → expired v now ≡ u
late_none f s v u now last k is le quiet =
    let all : last + (v.tickets - last) ≡ v.tickets = omega arith in
    ap (expired_to now v) (sym all) ∙ idle_to v u now last (v.tickets - last) is (λ x lo hi. expires_none u now x (due_stays f s u now x k (quiet x lo)))

-- ---- the next one that is late

-- a ticket up to the last one isn't asked for
up_to_last : (last t : ℕ) (b : Bool) → (last < t → b ≡ false) → (nat_lt last t && b) ≡ false
up_to_last last t b off = grind (arith, nat_tests, off)

-- what was found is the lowest
pub answered_next : (v : SenderView) (last now : ℕ) (o : Option ℕ) → NextLateAnswer v last now o → o ≡ next_late v last now
answered_next v last now None none = sym (lowest_none (λ t. nat_lt last t && is_to_expire v now t) v.tickets (λ t lo hi. up_to_last last t (is_to_expire v now t) (none t)))
answered_next v last now (Some t) next =
    let above = next.above in
    let on : nat_lt last t ≡ true = grind (arith, nat_tests) in
    sym (lowest_found (λ x. nat_lt last x && is_to_expire v now x) v.tickets t (record {
      some = omega (arith, above);
      within = next.given;
      passes = rw (on, next.late) refl;
      first = λ x lo hi. up_to_last last x (is_to_expire v now x) (λ after. next.before x after hi);
    }))

-- ---- whether any is late

-- all tickets that were given are looked at
none_up : (test : ℕ → Bool) (i n : ℕ) → ((t : ℕ) → i ≤ t → test t ≡ false) → list_any test (count_up i n) ≡ false
none_up test i zero off = refl
none_up test i (suc n) off = rw (off i (omega arith)) (none_up test (suc i) n (λ t le. off t (omega arith)))

some_up : (test : ℕ → Bool) (i n t : ℕ) → i ≤ t → t < i + n → test t ≡ true → list_any test (count_up i n) ≡ true
some_up test i zero t lo hi on = absurd (omega arith)
some_up test i (suc n) t lo hi on = grind (arith, some_up test (suc i) n t)

pub none_late : (v : SenderView) (now : ℕ) → NextLateAnswer v 0 now None → has_late v now ≡ false
none_late v now none = none_up (is_to_expire v now) 1 v.tickets (λ t le. none t (omega arith))

pub some_late_there : (v : SenderView) (now t : ℕ) → NextLateAnswer v 0 now (Some t) → has_late v now ≡ true
some_late_there v now t next = let above = next.above in let given = next.given in some_up (is_to_expire v now) 1 v.tickets t (omega (arith, above)) (omega (arith, given)) next.late
