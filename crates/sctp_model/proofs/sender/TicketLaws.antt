-- Tickets of a view that calls reach: each is of one message at most, and of one that was accepted.
use Rattle.std.proofs.Common.{◌≡◌, ℕ, zero, suc, ◌<◌, ◌≤◌, List, [], ◌∷◌, ◌++◌, length, Bool, true, false, Option, Some, None, refl, sym, ap, ◌∙◌, subst, arith}
use Rattle.std.specs.Prelude.{◌==◌, ◌||◌}
use Rattle.std.specs.Option.{option_or}
use Rattle.std.proofs.lemmas.Bool.Decides.{nat_tests}
use Rattle.sctp_model.specs.messages.Format.{Format, Lane}
use Rattle.sctp_model.specs.messages.Plan.{Entry, Part, End, Plan, parts_from}
use Rattle.sctp_model.specs.sender.SenderView.{Queued, SenderView}
use Rattle.sctp_model.specs.sender.Entries.{entry_lane, entry_number, entry_message}
use Rattle.sctp_model.specs.sender.Assigning.{with_message, with_entry, is_on, without_first}
use Rattle.sctp_model.specs.sender.Abandoning.{Name, waits, without, name_of, name_among, has_ticket, with_abandoned}
use Rattle.sctp_model.specs.sender.Reached.{IsReached, Begins, Queues, Goes, Covers, Closes, Abandons, Repeats, Rebases}
use Rattle.sctp_model.proofs.sender.WishCases.{IsAssigned, Whole, Begun, Continued, after_wish}
use Rattle.sctp_model.proofs.sender.AbandonCases.{after_abandon, after_end}
use Rattle.sctp_model.proofs.sender.SetLaws.{AllFilled, is_filled}
use Rattle.sctp_model.proofs.sender.PlanLaws.{message_new, message_stays, continued_is}
use Rattle.sctp_model.proofs.sender.CountLaws.{HasMessages, is_named}
use Rattle.sctp_model.proofs.sender.OwnLaws.{Owns, AllOwn, name_among-append, name_among-same, name_among-stays, name_among-parts, own_push, all_own_push, all_own_append, some_first, latest_owns}
use Rattle.sctp_model.proofs.sender.QueueLaws.{AreApart, IsTaken, taken_head, taken_first, apart_tests, fewer_without, apart_without, apart_push}
pub use Rattle.sctp_model.proofs.sender.OwnLaws.{found_owns}
pub use Rattle.sctp_model.proofs.sender.QueueLaws.{waits_push}

pub record IsTicketed (v : SenderView) : Type 0 where
  pub waiting : (t : ℕ) → waits t v.queue ≡ true → (0 < t) × (t ≤ v.tickets) × (name_of v t ≡ None)
  pub apart : AreApart v.queue
  pub owned : AllOwn v.plan v.tickets v.plan.entries v.plan.entries

-- ---- the steps

clash : {b : Bool} → b ≡ true → b ≡ false → ⊥
clash on off = cc

-- the fragments of the message that took its number
own_parts : (n : ℕ) (p : Plan) (k : ℕ) (q : Queued) (d : ℕ) (all : List Entry) (x c : ℕ) → ((t : ℕ) → q.message.ticket ≡ t → (0 < t) × (t ≤ k) × (name_among (with_message p q d) t all ≡ Some (record { lane = q.lane; number = length (p.messages q.lane) })))
    → AllOwn (with_message p q d) k all (parts_from q.lane (length (p.messages q.lane)) x c)
own_parts n p k q d all x zero own = tt
own_parts n p k q d all x (suc c) own =
    (λ t has. let here : (q.message.ticket == t) ≡ true = rw (message_new p q d) at has in own t (grind (arith, nat_tests)), own_parts n p k q d all (suc x) c own)

ticketed_new : (v : SenderView) (q : Queued) (rest : List Queued) (d turn : ℕ) → HasMessages v → IsTicketed v → IsTaken q rest v.queue
    → IsTicketed (record v { plan = with_message v.plan q (suc d); queue = rest; turn = turn })
ticketed_new v q rest d turn named h taken =
    let p = v.plan in
    let p2 = with_message v.plan q (suc d) in
    let es = v.plan.entries in
    let parts = parts_from q.lane (length (v.plan.messages q.lane)) 0 (suc d) in
    let alone = taken.alone h.apart in
    let stays : (t : ℕ) → name_among p2 t es ≡ name_among p t es = λ t. name_among-stays v.streams p q (suc d) t es named in
    let own : (t : ℕ) → q.message.ticket ≡ t → (0 < t) × (t ≤ v.tickets) × (name_among p2 t (es ++ parts) ≡ Some (record { lane = q.lane; number = length (p.messages q.lane) })) = λ t e.
    let old = h.waiting t (rw e at taken.was) in
    let on : (q.message.ticket == t) ≡ true = grind (arith, nat_tests) in
    (old.0, old.1, name_among-append p2 t es parts ∙ ap (λ (o : Option Name). option_or o (name_among p2 t parts)) (stays t ∙ old.2) ∙ name_among-parts p q (suc d) t 0 d ∙ rw on refl) in
    record {
      waiting = λ t is.
          let old = h.waiting t (taken.fewer t is) in
          let ne : (q.message.ticket ≡ t → ⊥) = λ e. clash is (rw e at alone.0) in
          (old.0, old.1, name_among-append p2 t es parts ∙ ap (λ (o : Option Name). option_or o (name_among p2 t parts)) (stays t ∙ old.2) ∙ name_among-parts p q (suc d) t 0 d ∙ rw (apart_tests q.message.ticket t ne) refl);
      apart = alone.1;
      owned = all_own_append p2 v.tickets (es ++ parts) es parts
          (all_own_push v.streams p p2 v.tickets v.tickets es (es ++ parts) es (omega arith) named (λ e here. message_stays v.streams p q (suc d) e here)
          (λ t n is. name_among-append p2 t es parts ∙ some_first (name_among p2 t es) (name_among p2 t parts) n (stays t ∙ is)) h.owned)
          (own_parts v.streams p v.tickets q (suc d) (es ++ parts) 0 (suc d) own);
    }

-- one entry more of a message that has one
ticketed_more : (v : SenderView) (e : Entry) (a : Lane → ℕ → Bool) (marked : ℕ → Bool) (turn : ℕ) → HasMessages v → IsTicketed v → Owns v.plan v.tickets v.plan.entries (entry_lane e) (entry_number e)
    → IsTicketed (record v { plan = with_entry v.plan e; abandoned = a; marked = marked; turn = turn })
ticketed_more v e a marked turn named h own =
    let es = v.plan.entries in
    let p2 = with_entry v.plan e in
    let same : (t : ℕ) (ds : List Entry) → name_among p2 t ds ≡ name_among v.plan t ds = λ t ds. name_among-same v.plan p2 t ds (λ x. refl) in
    let names : (t : ℕ) (n : Name) → name_among v.plan t es ≡ Some n → name_among p2 t (es ++ e ∷ []) ≡ Some n =
    λ t n is. name_among-append p2 t es (e ∷ []) ∙ some_first (name_among p2 t es) (name_among p2 t (e ∷ [])) n (same t es ∙ is) in
    record {
      waiting = λ t is.
          let old = h.waiting t is in
          let ne : has_ticket t (entry_message v.plan e) ≡ false = not_mine t (has_ticket t (entry_message v.plan e)) refl old.2 in
          (old.0, old.1, name_among-append p2 t es (e ∷ []) ∙ ap (λ (o : Option Name). option_or o (name_among p2 t (e ∷ []))) (same t es ∙ old.2) ∙ rw ne refl);
      apart = h.apart;
      owned = all_own_append p2 v.tickets (es ++ e ∷ []) es (e ∷ [])
          (all_own_push v.streams v.plan p2 v.tickets v.tickets es (es ++ e ∷ []) es (omega arith) named (λ x here. refl) names h.owned)
          (own_push v.plan p2 v.tickets v.tickets es (es ++ e ∷ []) (entry_lane e) (entry_number e) (omega arith) refl names own, tt);
    }
  where
    not_mine : (t : ℕ) (b : Bool) → has_ticket t (entry_message v.plan e) ≡ b → name_of v t ≡ None → b ≡ false
    not_mine t false is none = refl
    not_mine t true is none = let some = (own t is).2 in absurd (cc)

ticketed_assigned : (f : Format) (v u : SenderView) → AllFilled v.streams v.queue → HasMessages v → IsTicketed v → IsAssigned v f u → IsTicketed u
ticketed_assigned _ v _ full named h (Whole q rest is) = by_count (length q.message.fragments) (subst (λ (qs : List Queued). AllFilled v.streams qs) is full).0.0
  where
    by_count : (d : ℕ) → 0 < d → IsTicketed (record v { plan = with_message v.plan q d; queue = rest })
    by_count zero some = absurd (omega arith)
    by_count (suc d) some = ticketed_new v q rest d v.turn named h (subst (λ (qs : List Queued). IsTaken q rest qs) (sym is) (taken_head q rest))
ticketed_assigned _ v _ full named h (Begun s q lt on first) = ticketed_new v q (without_first (is_on s) v.queue) 0 _ named h (taken_first s q v.queue first)
ticketed_assigned _ v _ full named h (Continued s e lt on) =
    let next = continued_is v.streams v.plan s e named on in
    let before = latest_owns v.plan v.tickets v.plan.entries s v.plan.entries (Part next.lane next.number next.fragment) h.owned next.before in
    ticketed_more v e v.abandoned v.marked _ named h (subst (λ (x : Entry). Owns v.plan v.tickets v.plan.entries (entry_lane x) (entry_number x)) (sym next.is) before)

ticketed_given : (v : SenderView) (n : Name) → HasMessages v → IsTicketed v → Owns v.plan v.tickets v.plan.entries n.lane n.number → IsTicketed (with_abandoned v n)
ticketed_given v n named h own =
    let u = with_abandoned v n in
    after_end (λ (p : Plan). IsTicketed (record u { plan = p })) v n (λ off. record { waiting = h.waiting; apart = h.apart; owned = h.owned })
    (λ on. ticketed_more v (End n.lane n.number) u.abandoned u.marked v.turn named h own)

-- a ticket that was not given names nothing
pub name_of_none : (v : SenderView) (t : ℕ) → IsTicketed v → v.tickets < t → name_of v t ≡ None
name_of_none v t h lt = by_name (name_of v t) refl
  where
    by_name : (o : Option Name) → name_of v t ≡ o → o ≡ None
    by_name None is = refl
    by_name (Some n) is =
        let own = found_owns v.plan v.tickets t v.plan.entries v.plan.entries n h.owned is in
        let b = (own.0 t own.1).1 in
        absurd (omega arith)

ticketed_queued : (v : SenderView) (q : Queued) → HasMessages v → q.message.ticket ≡ suc v.tickets → IsTicketed v → IsTicketed (record v { tickets = suc v.tickets; queue = v.queue ++ q ∷ [] })
ticketed_queued v q named own h = record {
  waiting = λ t is. by_test t (waits t v.queue) refl (rw waits_push at is);
  apart = apart_push v.queue q h.apart (λ t is e. let b = (h.waiting t is).1 in absurd (omega arith));
  owned = all_own_push v.streams v.plan v.plan v.tickets (suc v.tickets) v.plan.entries v.plan.entries v.plan.entries (omega arith) named (λ e here. refl) (λ t n is. is) h.owned;
}
  where
    by_test : (t : ℕ) (b : Bool) → waits t v.queue ≡ b → (b || (q.message.ticket == t)) ≡ true → (0 < t) × (t ≤ suc v.tickets) × (name_of v t ≡ None)
    by_test t true is here = let old = h.waiting t is in let b = old.1 in (old.0, omega arith, old.2)
    by_test t false is here =
        let same : q.message.ticket ≡ t = grind (arith, nat_tests) in
        (omega arith, omega arith, name_of_none v t h (omega arith))

ticketed_withdrawn : (v : SenderView) (t : ℕ) → IsTicketed v → IsTicketed (record v { queue = without t v.queue })
ticketed_withdrawn v t h = record { waiting = λ x is. h.waiting x (fewer_without t x v.queue is); apart = apart_without t v.queue h.apart; owned = h.owned }

pub is_ticketed : (f : Format) (v : SenderView) → IsReached f v → IsTicketed v
is_ticketed f _ (Begins i s b r p most large) = record { waiting = λ t is. absurd (cc); apart = tt; owned = tt }
is_ticketed f _ (Queues v l p b u n h free) = ticketed_queued v _ (is_named f v h) refl (is_ticketed f v h)
is_ticketed f _ (Goes v room w h next may) =
    let k = is_ticketed f v h in
    after_wish IsTicketed f v w k (λ u a. ticketed_assigned f v u (is_filled f v h) (is_named f v h) k a) (λ u i x. record { waiting = x.waiting; apart = x.apart; owned = x.owned }) next
is_ticketed f _ (Covers v x h none) = let k = is_ticketed f v h in record { waiting = k.waiting; apart = k.apart; owned = k.owned }
is_ticketed f _ (Closes v x h none) = let k = is_ticketed f v h in record { waiting = k.waiting; apart = k.apart; owned = k.owned }
is_ticketed f _ (Abandons v t h) =
    let k = is_ticketed f v h in
    after_abandon IsTicketed v t k (λ on. ticketed_withdrawn v t k) (λ n is kept. ticketed_given v n (is_named f v h) k (found_owns v.plan v.tickets t v.plan.entries v.plan.entries n k.owned is).0)
is_ticketed f _ (Repeats v test h) = let k = is_ticketed f v h in record { waiting = k.waiting; apart = k.apart; owned = k.owned }
is_ticketed f _ (Rebases v x h) = let k = is_ticketed f v h in record { waiting = k.waiting; apart = k.apart; owned = k.owned }
