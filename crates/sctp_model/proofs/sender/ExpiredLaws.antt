-- Messages past their time: those that wait, those of entries, and those that streams go on with; and one ticket after the other.
use Rattle.std.proofs.Common.{◌≡◌, ℕ, zero, suc, ◌+◌, ◌<◌, ◌≤◌, List, [], ◌∷◌, length, drop, Bool, true, false, Option, Some, None, refl, ap, ◌∙◌, subst, arith}
use Rattle.std.specs.Prelude.{◌==◌, ◌&&◌, ◌||◌, if◌then◌else◌, fold, find, option_map, option_and_then}
use Rattle.std.specs.List.{list_any}
use Rattle.std.proofs.lemmas.Bool.{and_parts}
use Rattle.std.proofs.lemmas.Bool.Decides.{nat_tests}
use Rattle.sctp_model.specs.messages.Format.{Format}
use Rattle.sctp_model.specs.messages.Plan.{Message, Entry, Plan, message_at}
use Rattle.sctp_model.specs.sender.SenderView.{Queued, SenderView}
use Rattle.sctp_model.specs.sender.Words.{first_there, some_passes, count_up}
use Rattle.sctp_model.specs.sender.Entries.{any_from}
use Rattle.sctp_model.specs.sender.Abandoning.{Name, name_of, waits, has_ticket, is_past, is_overdue, expire_one}
use Rattle.sctp_model.specs.sender.Reached.{IsReached}
use Rattle.sctp_model.proofs.sender.WordLaws.{count_push, fold-append}
use Rattle.sctp_model.proofs.sender.OwnLaws.{AllOwn}
use Rattle.sctp_model.proofs.sender.QueueLaws.{AreApart}
use Rattle.sctp_model.proofs.sender.TicketLaws.{is_ticketed}

-- ---- a message that is late

-- it has the ticket, and is past its time
abbrev pub is_late : (now ticket : ℕ) → Option Message → Bool
is_late now t m = some_passes (λ x. (x.ticket == t) && is_past now x) m

pub late_has : (now t : ℕ) (m : Option Message) → is_late now t m ≡ true → has_ticket t m ≡ true
late_has now t None late = absurd (cc)
late_has now t (Some m) late = (and_parts (m.ticket == t) (is_past now m) late).0

pub late_past : (now t : ℕ) (m : Option Message) → is_late now t m ≡ true → some_passes (is_past now) m ≡ true
late_past now t None late = absurd (cc)
late_past now t (Some m) late = (and_parts (m.ticket == t) (is_past now m) late).1

pub late_is : (now t : ℕ) (m : Option Message) → has_ticket t m ≡ true → some_passes (is_past now) m ≡ true → is_late now t m ≡ true
late_is now t None has past = absurd (cc)
late_is now t (Some m) has past = rw (has, past) refl

-- among those that wait
abbrev pub late_waits : (now ticket : ℕ) → List Queued → Bool
late_waits now t qs = list_any (λ q. is_late now t (Some q.message)) qs

-- ---- what shows that a message is due

-- what is there first counts
first_passes : (test : Message → Bool) (o : Option Message) (others : List (Option Message)) → some_passes test o ≡ true → some_passes test (first_there (o ∷ others)) ≡ true
first_passes test None others on = absurd (cc)
first_passes test (Some m) others on = on

-- one that is late waits
pub waits_late : (now t : ℕ) (qs : List Queued) → late_waits now t qs ≡ true → waits t qs ≡ true
waits_late now t [] is = absurd (cc)
waits_late now t (x ∷ xs) is = by_test (x.message.ticket == t) (is_past now x.message) is (λ rest. waits_late now t xs rest)
  where
    by_test : (b c : Bool) → ((b && c) || late_waits now t xs) ≡ true → (late_waits now t xs ≡ true → waits t xs ≡ true) → (b || waits t xs) ≡ true
    by_test true c here further = refl
    by_test false c here further = further here

-- tickets of the messages that wait are apart, so that the first one with the ticket is the late one
late_found : (now t : ℕ) (qs : List Queued) → AreApart qs → late_waits now t qs ≡ true → some_passes (is_past now) (option_map (λ q. q.message) (find (λ q. q.message.ticket == t) qs)) ≡ true
late_found now t [] apart late = absurd (cc)
late_found now t (q ∷ qs) apart late = by_ticket (q.message.ticket == t) refl late (λ rest. late_found now t qs apart.1 rest)
  where
    by_ticket : (b : Bool) → (q.message.ticket == t) ≡ b → ((b && is_past now q.message) || late_waits now t qs) ≡ true
        → (late_waits now t qs ≡ true → some_passes (is_past now) (option_map (λ x. x.message) (find (λ x. x.message.ticket == t) qs)) ≡ true)
        → some_passes (is_past now) (option_map (λ x. x.message) (if b then Some q else find (λ x. x.message.ticket == t) qs)) ≡ true
    by_ticket false off here further = further here
    by_ticket true on here further = by_past (is_past now q.message) here
      where
        same : q.message.ticket ≡ t
        same = grind (arith, nat_tests)

        by_past : (c : Bool) → (c || late_waits now t qs) ≡ true → c ≡ true
        by_past true is = refl
        by_past false is = absurd (let also = waits_late now t qs is in let none : waits t qs ≡ false = subst (λ (x : ℕ). waits x qs ≡ false) same apart.0 in cc)

pub due_waits : (f : Format) (v : SenderView) (now t : ℕ) → IsReached f v → late_waits now t v.queue ≡ true → is_overdue v now t ≡ true
due_waits f v now t h late = first_passes (is_past now) (option_map (λ q. q.message) (find (λ q. q.message.ticket == t) v.queue)) (option_and_then (λ n. message_at v.plan n.lane n.number) (name_of v t) ∷ []) (late_found now t v.queue (is_ticketed f v h).apart late)

found_waits : (t : ℕ) (q : Queued) (qs : List Queued) → find (λ x. x.message.ticket == t) qs ≡ Some q → waits t qs ≡ true
found_waits t q [] is = absurd (cc)
found_waits t q (x ∷ qs) is = by_test (x.message.ticket == t) is (λ there. found_waits t q qs there)
  where
    by_test : (b : Bool) → (if b then Some x else find (λ y. y.message.ticket == t) qs) ≡ Some q → (find (λ y. y.message.ticket == t) qs ≡ Some q → waits t qs ≡ true) → (b || waits t qs) ≡ true
    by_test true here further = refl
    by_test false here further = further here

-- a message with a number that is past its time: none that waits has its ticket
pub due_named : (f : Format) (v : SenderView) (now t : ℕ) (n : Name) → IsReached f v → name_of v t ≡ Some n → some_passes (is_past now) (message_at v.plan n.lane n.number) ≡ true → is_overdue v now t ≡ true
due_named f v now t n h is past = by_wait (find (λ q. q.message.ticket == t) v.queue) refl
  where
    by_wait : (o : Option Queued) → find (λ q. q.message.ticket == t) v.queue ≡ o
        → some_passes (is_past now) (first_there (option_map (λ q. q.message) o ∷ option_and_then (λ y. message_at v.plan y.lane y.number) (name_of v t) ∷ [])) ≡ true
    by_wait (Some q) found = absurd (let none = ((is_ticketed f v h).waiting t (found_waits t q v.queue found)).2 in cc)
    by_wait None found = rw is (first_passes (is_past now) (message_at v.plan n.lane n.number) [] past)

pub all_own_drop : (p : Plan) (k n : ℕ) (all es : List Entry) → AllOwn p k all es → AllOwn p k all (drop n es)
all_own_drop p k zero all es own = own
all_own_drop p k (suc n) all [] own = own
all_own_drop p k (suc n) all (e ∷ es) own = all_own_drop p k n all es own.1

-- ---- what isn't shown

-- where the first entries don't pass, others have to
pub any_from-drop : (test : ℕ → Entry → Bool) (i n : ℕ) (es : List Entry) → ((j : ℕ) (e : Entry) → i ≤ j → j < i + n → test j e ≡ false) → n ≤ length es → any_from test i es ≡ any_from test (i + n) (drop n es)
any_from-drop test i zero es off le = let same : i + 0 ≡ i = omega arith in rw same refl
any_from-drop test i (suc n) [] off le = absurd (omega arith)
any_from-drop test i (suc n) (e ∷ es) off le =
    let next : suc i + n ≡ i + suc n = omega arith in
    rw (off i e (omega arith) (omega arith), ← next) (any_from-drop test (suc i) n es (λ j d lo hi. off j d (omega arith) (omega arith)) (omega arith))

-- a message that waits, past its time, is late
pub found_late : (now t : ℕ) (qs : List Queued) → some_passes (is_past now) (option_map (λ q. q.message) (find (λ q. q.message.ticket == t) qs)) ≡ true → late_waits now t qs ≡ true
found_late now t [] is = absurd (cc)
found_late now t (q ∷ qs) is = by_ticket (q.message.ticket == t) is (λ rest. found_late now t qs rest)
  where
    either : (b c : Bool) → c ≡ true → (b || c) ≡ true
    either true c on = refl
    either false c on = on

    by_ticket : (b : Bool) → some_passes (is_past now) (option_map (λ x. x.message) (if b then Some q else find (λ x. x.message.ticket == t) qs)) ≡ true
        → (some_passes (is_past now) (option_map (λ x. x.message) (find (λ x. x.message.ticket == t) qs)) ≡ true → late_waits now t qs ≡ true) → ((b && is_past now q.message) || late_waits now t qs) ≡ true
    by_ticket true past further = rw past refl
    by_ticket false past further = either false (late_waits now t qs) (further past)

-- of one that is there and none, it is the one
pub first_alone : (now : ℕ) (o : Option Message) → some_passes (is_past now) (first_there (o ∷ None ∷ [])) ≡ true → some_passes (is_past now) o ≡ true
first_alone now None is = is
first_alone now (Some m) is = is

-- ---- one ticket after the other

-- the view after the tickets up to this one
abbrev pub expired_to : (now : ℕ) → SenderView → (ticket : ℕ) → SenderView
expired_to now v t = fold (expire_one now) v (count_up 1 t)

pub expired_next : (now t : ℕ) (v : SenderView) → expired_to now v (suc t) ≡ expire_one now (expired_to now v t) (suc t)
expired_next now t v =
    let one : 1 + t ≡ suc t = omega arith in
    ap (fold (expire_one now) v) (rw one at (count_push 1 t)) ∙ fold-append (expire_one now) v (count_up 1 t) (suc t ∷ [])
