-- When what is past its time has expired, nothing is left to expire: each ticket is settled in its turn, and stays so.
use Rattle.std.proofs.Common.{◌≡◌, ℕ, zero, suc, ◌<◌, ◌≤◌, inl, inr, ◌⊎◌, Bool, true, false, not, ◌&&◌, List, [], ◌∷◌, Option, Some, None, refl, sym, ap, ◌∙◌, subst, arith}
use Rattle.std.specs.Prelude.{fold, if◌then◌else◌}
use Rattle.std.specs.Option.{option_map_or}
use Rattle.std.proofs.lemmas.Bool.{cases_eq}
use Rattle.sctp_model.specs.numbers.Lists.{Has}
use Rattle.sctp_model.specs.messages.Format.{Format, Lane}
use Rattle.sctp_model.specs.messages.Plan.{Message, message_at}
use Rattle.sctp_model.specs.sender.SenderView.{Queued, SenderView}
use Rattle.sctp_model.specs.sender.Words.{count_up}
use Rattle.sctp_model.specs.sender.Abandoning.{Name, name_of, waits, without, is_abandoned, is_covered, ended, with_abandoned, abandon_named, abandon_after, is_past, is_overdue, expire_one, expired}
use Rattle.sctp_model.specs.sender.Reached.{IsReached}
use Rattle.sctp_model.proofs.sender.AbandonCases.{after_abandon, given_itself, given_other}
use Rattle.sctp_model.proofs.sender.AbandonedLaws.{expires_each}
use Rattle.sctp_model.proofs.sender.EndLaws.{given_stays}
use Rattle.sctp_model.proofs.sender.ExpiredLaws.{due_waits, due_named, expired_to, expired_next}
use Rattle.sctp_model.proofs.sender.QueueLaws.{without_self}
use Rattle.sctp_model.proofs.sender.TicketLaws.{is_ticketed, found_owns}
use Rattle.sctp_safety.specs.Told.{HasNumber, WasAbandoned, WasAcknowledged}
use Rattle.sctp_safety.specs.Abandoned.{NoneIsLeftToExpire}
use Rattle.sctp_safety.proofs.moves.Later.{IsComplete-later}
use Rattle.sctp_safety.proofs.plan.NameFacts.{never_both, has_number}
use Rattle.sctp_safety.proofs.sending.ToldLemmas.{found, number_of, none_has, acknowledged_name}
use Rattle.sctp_safety.proofs.sending.EndedLemmas.{off_of, waits_has, late_has, has_left, same_named, ended_extends, ended_parts}

-- ---- one ticket

-- no message with this ticket waits past its time, nor has one a number that could be abandoned
record IsSettled (now : ℕ) (u : SenderView) (t : ℕ) : Type 0 where
  queue : (q : Queued) → Has u.queue q → q.message.ticket ≡ t → is_past now q.message ≡ true → ⊥
  plan : (h : HasNumber u t) → is_past now h.message ≡ true → u.partial ≡ true → WasAbandoned u t ⊎ WasAcknowledged u t

-- a message of the plan given up is one of the plan
abbrev number_before : (v : SenderView) (n : Name) (t : ℕ) → HasNumber (with_abandoned v n) t → HasNumber v t
number_before v n t h = record { lane = h.lane; number = h.number; message = h.message; named = sym (same_named v n h.lane h.number) ∙ h.named; ticket = h.ticket }

-- another message is acknowledged as it was
acknowledged_stays : (v : SenderView) (n : Name) (s t : ℕ) → name_of v s ≡ Some n → (s ≡ t → ⊥) → WasAcknowledged v t → WasAcknowledged (with_abandoned v n) t
acknowledged_stays v n s t is apart w = record {
  has = record { lane = w.has.lane; number = w.has.number; message = w.has.message; named = same_named v n w.has.lane w.has.number ∙ w.has.named; ticket = w.has.ticket };
  kept = given_other v n w.has.lane w.has.number other ∙ w.kept;
  complete = IsComplete-later v.plan (ended v n) (ended_extends v n) w.has.lane w.has.number w.has.message w.complete;
  covered = λ i k here. w.covered i k (ended_parts v n i w.has.lane w.has.number k here);
}
  where
    other : (w.has.lane ≡ n.lane) × (w.has.number ≡ n.number) → ⊥
    other same =
        let r = has_number v s n is in
        let mine : message_at v.plan n.lane n.number ≡ Some w.has.message =
        subst (λ (k : ℕ). message_at v.plan n.lane k ≡ Some w.has.message) same.1 (subst (λ (l : Lane). message_at v.plan l w.has.number ≡ Some w.has.message) same.0 w.has.named) in
        let here = r.1 in
        let one : r.0 ≡ w.has.message = cc in
        apart (sym r.2 ∙ ap (λ (m : Message). m.ticket) one ∙ w.has.ticket)

-- a call for another ticket leaves it settled
settled_stays : (now t s : ℕ) (u : SenderView) → (s ≡ t → ⊥) → IsSettled now u t → IsSettled now (abandon_after u s) t
settled_stays now t s u apart h = after_abandon (λ (x : SenderView). IsSettled now x t) u s h (λ waiting. withdrawn) (λ n is kept. given n is)
  where
    withdrawn : IsSettled now (record u { queue = without s u.queue }) t
    withdrawn = record {
      queue = λ q has ticket past. h.queue q (has_left s u.queue q has) ticket past;
      plan = λ g past partial.
          elim (h.plan (record { lane = g.lane; number = g.number; message = g.message; named = g.named; ticket = g.ticket }) past partial) [
            | inl w ↦ inl (record { has = record { lane = w.has.lane; number = w.has.number; message = w.has.message; named = w.has.named; ticket = w.has.ticket }; given = w.given })
            | inr w ↦ inr (record {
              has = record { lane = w.has.lane; number = w.has.number; message = w.has.message; named = w.has.named; ticket = w.has.ticket };
              kept = w.kept;
              complete = w.complete;
              covered = w.covered;
            })
          ];
    }

    given : (n : Name) → name_of u s ≡ Some n → IsSettled now (with_abandoned u n) t
    given n is = record {
      queue = h.queue;
      plan = λ g past partial.
          elim (h.plan (number_before u n t g) past partial) [
            | inl w ↦ inl (record {
              has = record { lane = w.has.lane; number = w.has.number; message = w.has.message; named = same_named u n w.has.lane w.has.number ∙ w.has.named; ticket = w.has.ticket };
              given = given_stays u n w.has.lane w.has.number w.given;
            })
            | inr w ↦ inr (acknowledged_stays u n s t is apart w)
          ];
    }

-- if none waits with the ticket, none is past its time
none_waits : (now t : ℕ) (qs : List Queued) → waits t qs ≡ false → (q : Queued) → Has qs q → q.message.ticket ≡ t → is_past now q.message ≡ true → ⊥
none_waits now t qs none q has ticket past = never_both (waits t qs) (waits_has t qs q has ticket) none

-- the call for its own ticket settles it
settled_now : (f : Format) (now t : ℕ) (u : SenderView) → IsReached f u → IsSettled now (abandon_after u t) t
settled_now f now t u reached = by_name (name_of u t) refl
  where
    none_with : (n : Name) → name_of u t ≡ Some n → waits t u.queue ≡ false
    none_with n is = off_of (waits t u.queue) (λ on. let none = ((is_ticketed f u reached).waiting t on).2 in absurd (cc))

    -- the message given up is the one with the ticket
    given : (n : Name) → name_of u t ≡ Some n → (g : HasNumber (with_abandoned u n) t) → WasAbandoned (with_abandoned u n) t
    given n is g =
        let mine = found f u reached t (number_before u n t g) in
        let same : n ≡ record { lane = g.lane; number = g.number } = cc in
        record { has = g; given = subst (λ (x : Name). (with_abandoned u n).abandoned x.lane x.number ≡ true) same (given_itself u n) }

    by_tests : (n : Name) → name_of u t ≡ Some n → (p : Bool) → u.partial ≡ p → (a : Bool) → is_abandoned u n ≡ a → (c : Bool) → is_covered u n ≡ c
        → IsSettled now (if p && (not a && not c) then with_abandoned u n else u) t
    by_tests n is false off a on c cover = record { queue = none_waits now t u.queue (none_with n is); plan = λ g past partial. absurd (never_both u.partial partial off) }
    by_tests n is true allowed true on c cover = record { queue = none_waits now t u.queue (none_with n is); plan = λ g past partial. inl (record { has = number_of f u reached t n is; given = on }) }
    by_tests n is true allowed false kept true cover =
        record { queue = none_waits now t u.queue (none_with n is); plan = λ g past partial. inr (acknowledged_name f u reached t n is cover kept) }
    by_tests n is true allowed false kept false cover = record { queue = none_waits now t u.queue (none_with n is); plan = λ g past partial. inl (given n is g) }

    by_name : (o : Option Name) → name_of u t ≡ o → IsSettled now (option_map_or (abandon_named u) o (record u { queue = without t u.queue })) t
    by_name None none = record {
      queue = none_waits now t (without t u.queue) (without_self t u.queue (is_ticketed f u reached).apart);
      plan = λ g past partial. absurd (none_has f u reached t none (record { lane = g.lane; number = g.number; message = g.message; named = g.named; ticket = g.ticket }));
    }
    by_name (Some n) some = by_tests n some u.partial refl (is_abandoned u n) refl (is_covered u n) refl

-- its turn settles it: if it isn't due, it was settled
turn_settles : (f : Format) (now t : ℕ) (u : SenderView) → IsReached f u → IsSettled now (expire_one now u t) t
turn_settles f now t u reached = by_due (is_overdue u now t) refl
  where
    by_due : (b : Bool) → is_overdue u now t ≡ b → IsSettled now (if b then abandon_after u t else u) t
    by_due true due = settled_now f now t u reached
    by_due false off = record {
      queue = λ q has ticket past. never_both (is_overdue u now t) (due_waits f u now t reached (late_has now t u.queue q has ticket past)) off;
      plan = λ h past partial.
          let name = found f u reached t h in
          absurd (never_both (is_overdue u now t) (due_named f u now t (record { lane = h.lane; number = h.number }) reached name (let named = h.named in rw named past)) off);
    }

-- and so it stays
turn_leaves : (now t s : ℕ) (u : SenderView) → (s ≡ t → ⊥) → IsSettled now u t → IsSettled now (expire_one now u s) t
turn_leaves now t s u apart h = by_due (is_overdue u now s)
  where
    by_due : (b : Bool) → IsSettled now (if b then abandon_after u s else u) t
    by_due true = settled_stays now t s u apart h
    by_due false = h

-- ---- one ticket after the other

reached_to : (f : Format) (v : SenderView) (now k : ℕ) → IsReached f v → IsReached f (expired_to now v k)
reached_to f v now k h = (expires_each f v v now (count_up 1 k) (record { only = λ l n on. inl on; messages = refl; reached = h })).reached

all_settled : (f : Format) (v : SenderView) (now k t : ℕ) → IsReached f v → 0 < t → t ≤ k → IsSettled now (expired_to now v k) t
all_settled f v now zero t h low high = absurd (omega (arith, low, high))
all_settled f v now (suc k) t h low high =
    subst (λ (x : SenderView). IsSettled now x t) (sym (expired_next now k v))
    (elim (cases_eq (suc k) t) [
      | inl last ↦ subst (λ (s : ℕ). IsSettled now (expire_one now (expired_to now v k) (suc k)) s) last (turn_settles f now (suc k) (expired_to now v k) (reached_to f v now k h))
      | inr before ↦ turn_leaves now t (suc k) (expired_to now v k) before (all_settled f v now k t h low (omega (arith, high, before)))
    ])

-- no ticket more is given
tickets_kept : (now : ℕ) (ts : List ℕ) (u : SenderView) → (fold (expire_one now) u ts).tickets ≡ u.tickets
tickets_kept now [] u = refl
tickets_kept now (t ∷ ts) u = tickets_kept now ts (expire_one now u t) ∙ by_due (is_overdue u now t)
  where
    by_due : (b : Bool) → (if b then abandon_after u t else u).tickets ≡ u.tickets
    by_due true = after_abandon (λ (x : SenderView). x.tickets ≡ u.tickets) u t refl (λ waiting. refl) (λ n is kept. refl)
    by_due false = refl

pub none_is_left_to_expire : NoneIsLeftToExpire
none_is_left_to_expire f v now h = record {
  queue = λ q has. off_of (is_past now q.message) (λ past. waiting q has past);
  plan = λ l n m named past partial. (settled m.ticket (numbered l n m named)).plan (record { lane = l; number = n; message = m; named = named; ticket = refl }) past partial;
}
  where
    u : SenderView
    u = expired v now

    reached : IsReached f (expired v now)
    reached = reached_to f v now v.tickets h

    same : (expired v now).tickets ≡ v.tickets
    same = tickets_kept now (count_up 1 v.tickets) v

    settled : (t : ℕ) → (0 < t) × (t ≤ (expired v now).tickets) → IsSettled now (expired v now) t
    settled t range = let low = range.0 in let high = range.1 in all_settled f v now v.tickets t h low (let k = same in omega (arith, high, k))

    waiting : (q : Queued) → Has (expired v now).queue q → is_past now q.message ≡ true → ⊥
    waiting q has past =
        let r = (is_ticketed f (expired v now) reached).waiting q.message.ticket (waits_has q.message.ticket (expired v now).queue q has refl) in
        (settled q.message.ticket (r.0, r.1)).queue q has refl past

    numbered : (l : Lane) (n : ℕ) (m : Message) → message_at (expired v now).plan l n ≡ Some m → (0 < m.ticket) × (m.ticket ≤ (expired v now).tickets)
    numbered l n m named =
        let name = found f (expired v now) reached m.ticket (record { lane = l; number = n; message = m; named = named; ticket = refl }) in
        let own = found_owns (expired v now).plan (expired v now).tickets m.ticket (expired v now).plan.entries (expired v now).plan.entries (record { lane = l; number = n }) (is_ticketed f (expired v now) reached).owned name in
        let r = own.0 m.ticket own.1 in
        (r.0, r.1)
