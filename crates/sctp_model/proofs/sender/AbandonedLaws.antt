-- A message is abandoned only by a call that names its ticket, or if its time is past: no SACK, no timer, no packet filled abandons one.
use Rattle.std.proofs.Common.{◌≡◌, ℕ, ◌⊎◌, inl, inr, List, [], ◌∷◌, Bool, true, false, Option, Some, None, refl, sym, ap, ◌∙◌, subst}
use Rattle.std.specs.Prelude.{◌==◌, ◌||◌, if◌then◌else◌, slice_get, fold, find, is_some, option_map, option_and_then}
use Rattle.sctp_model.specs.messages.Format.{Format, Lane}
use Rattle.sctp_model.specs.wire.Chunk.{SackMeaning}
use Rattle.sctp_model.specs.messages.Plan.{Message, Plan, message_at}
use Rattle.sctp_model.specs.sender.SenderView.{Queued, SenderView}
use Rattle.sctp_model.specs.sender.Words.{first_there, some_passes, count_up}
use Rattle.sctp_model.specs.sender.Filling.{Wish, next_wish, gone}
use Rattle.sctp_model.specs.sender.SackTaken.{sack_after, sack_fault, sack_taken, shutdown_after, shutdown_fault, shutdown_taken}
use Rattle.sctp_model.specs.sender.Abandoning.{Name, waits, name_of, has_ticket, with_abandoned, abandon_after, is_past, is_overdue, expire_one, expired, timed_out}
use Rattle.sctp_model.specs.sender.Reached.{IsReached, Abandons}
use Rattle.sctp_model.proofs.sender.WishCases.{IsAssigned, Whole, Begun, Continued, after_wish}
use Rattle.sctp_model.proofs.sender.AbandonCases.{after_abandon, after_end, given_or_before}
use Rattle.sctp_model.proofs.sender.OwnLaws.{found_owns}
use Rattle.sctp_model.proofs.sender.TicketLaws.{is_ticketed}

-- ---- calls that abandon nothing

-- the same messages are abandoned
abbrev pub SameAbandoned : SenderView → SenderView → Type 0
SameAbandoned v u = u.abandoned ≡ v.abandoned

assigning_abandons_none : (f : Format) (v u : SenderView) → IsAssigned v f u → SameAbandoned v u
assigning_abandons_none _ v _ (Whole q rest is) = refl
assigning_abandons_none _ v _ (Begun s q lt on first) = refl
assigning_abandons_none _ v _ (Continued s e lt on) = refl

pub filling_abandons_none : (f : Format) (v : SenderView) (w : Wish) → IsReached f v → next_wish f v ≡ Some w → (gone w).abandoned ≡ v.abandoned
filling_abandons_none f v w h next = after_wish (SameAbandoned v) f v w refl (λ u a. assigning_abandons_none f v u a) (λ u i same. same) next

pub sack_abandons_none : (v : SenderView) (x : SackMeaning) → (sack_after v x).abandoned ≡ v.abandoned
sack_abandons_none v x = by_fault (is_some (sack_fault v x))
  where
    by_fault : (b : Bool) → (if b then v else sack_taken v x).abandoned ≡ v.abandoned
    by_fault true = refl
    by_fault false = refl

pub shutdown_abandons_none : (v : SenderView) (wire : ℕ) → (shutdown_after v wire).abandoned ≡ v.abandoned
shutdown_abandons_none v wire = by_fault (is_some (shutdown_fault v wire))
  where
    by_fault : (b : Bool) → (if b then v else shutdown_taken v wire).abandoned ≡ v.abandoned
    by_fault true = refl
    by_fault false = refl

pub timer_abandons_none : (v : SenderView) → (timed_out v).abandoned ≡ v.abandoned
timer_abandons_none v = refl

-- ---- by its ticket

-- what is abandoned was so before, or has the ticket
abbrev pub OnlyOf : SenderView → ℕ → SenderView → Type 0
OnlyOf v t u = (l : Lane) (n : ℕ) → u.abandoned l n ≡ true → (v.abandoned l n ≡ true) ⊎ (has_ticket t (message_at v.plan l n) ≡ true)

only_given : (f : Format) (v : SenderView) (t : ℕ) (n : Name) → IsReached f v → name_of v t ≡ Some n → OnlyOf v t (with_abandoned v n)
only_given f v t n h is l k on =
    elim (given_or_before v n l k on) [
      | inl this ↦
          let has = (found_owns v.plan v.tickets t v.plan.entries v.plan.entries n (is_ticketed f v h).owned is).1 in
          inr (subst (λ (y : ℕ). has_ticket t (message_at v.plan l y) ≡ true) (sym this.1) (subst (λ (y : Lane). has_ticket t (message_at v.plan y n.number) ≡ true) (sym this.0) has))
      | inr before ↦ inl before
    ]

pub abandons_by_ticket : (f : Format) (v : SenderView) (t : ℕ) → IsReached f v → OnlyOf v t (abandon_after v t)
abandons_by_ticket f v t h = after_abandon (OnlyOf v t) v t (λ l n on. inl on) (λ waiting l n on. inl on) (λ n is kept. only_given f v t n h is)

-- ---- if its time is past

-- messages stay where they are
abbrev pub SameMessages : SenderView → SenderView → Type 0
SameMessages v u = u.plan.messages ≡ v.plan.messages

messages_stay : (v : SenderView) (t : ℕ) → SameMessages v (abandon_after v t)
messages_stay v t =
    after_abandon (SameMessages v) v t refl (λ on. refl) (λ n is kept. after_end (λ (p : Plan). p.messages ≡ v.plan.messages) v n (λ off. refl) (λ end. refl))

-- the message of this name is past its time
pub record IsPast (v : SenderView) (now : ℕ) (l : Lane) (n : ℕ) : Type 0 where
  pub message : Message
  pub named : message_at v.plan l n ≡ Some message
  pub past : is_past now message ≡ true

-- a message found among those that wait waits
found_waits : (t : ℕ) (q : Queued) (qs : List Queued) → find (λ x. x.message.ticket == t) qs ≡ Some q → waits t qs ≡ true
found_waits t q [] is = absurd (cc)
found_waits t q (x ∷ qs) is = by_test (x.message.ticket == t) is (λ there. found_waits t q qs there)
  where
    by_test : (b : Bool) → (if b then Some x else find (λ y. y.message.ticket == t) qs) ≡ Some q → (find (λ y. y.message.ticket == t) qs ≡ Some q → waits t qs ≡ true) → (b || waits t qs) ≡ true
    by_test true here further = refl
    by_test false here further = further here

-- a message with a number that is due is past its time
pub due_is_past : (f : Format) (v : SenderView) (now t : ℕ) (n : Name) → IsReached f v → is_overdue v now t ≡ true → name_of v t ≡ Some n → IsPast v now n.lane n.number
due_is_past f v now t n h due is = by_wait (find (λ q. q.message.ticket == t) v.queue) refl (name_of v t) is due
  where
    by_message : (m : Option Message) → message_at v.plan n.lane n.number ≡ m → some_passes (is_past now) m ≡ true → IsPast v now n.lane n.number
    by_message None same past = absurd (cc)
    by_message (Some m) same past = record { message = m; named = same; past = past }

    plain : (o : Option Message) → some_passes (is_past now) (first_there (o ∷ [])) ≡ true → some_passes (is_past now) o ≡ true
    plain None past = past
    plain (Some m) past = past

    by_wait : (o : Option Queued) → find (λ q. q.message.ticket == t) v.queue ≡ o → (x : Option Name) → x ≡ Some n
        → some_passes (is_past now) (first_there (option_map (λ q. q.message) o ∷ option_and_then (λ y. message_at v.plan y.lane y.number) x ∷ [])) ≡ true → IsPast v now n.lane n.number
    by_wait (Some q) waiting x name past = absurd (let none = ((is_ticketed f v h).waiting t (found_waits t q v.queue waiting)).2 in cc (none, is))
    by_wait None waiting None name past = absurd (cc)
    by_wait None waiting (Some y) name past =
        let same : y ≡ n = cc in
        by_message (message_at v.plan n.lane n.number) refl (plain (message_at v.plan n.lane n.number) (subst (λ (z : Name). some_passes (is_past now) (first_there (message_at v.plan z.lane z.number ∷ [])) ≡ true) same past))

-- what is abandoned was so before, or is past its time
abbrev pub OnlyPast : SenderView → ℕ → SenderView → Type 0
OnlyPast v now u = (l : Lane) (n : ℕ) → u.abandoned l n ≡ true → (v.abandoned l n ≡ true) ⊎ IsPast v now l n

past_given : (f : Format) (v : SenderView) (now t : ℕ) (n : Name) → IsReached f v → is_overdue v now t ≡ true → name_of v t ≡ Some n → OnlyPast v now (with_abandoned v n)
past_given f v now t n h due is l k on =
    elim (given_or_before v n l k on) [
      | inl this ↦ inr (subst (λ (y : ℕ). IsPast v now l y) (sym this.1) (subst (λ (y : Lane). IsPast v now y n.number) (sym this.0) (due_is_past f v now t n h due is)))
      | inr before ↦ inl before
    ]

-- what expiry leaves of a view, so far
pub record IsExpiredPart (f : Format) (v : SenderView) (now : ℕ) (u : SenderView) : Type 0 where
  pub only : OnlyPast v now u
  pub messages : SameMessages v u
  pub reached : IsReached f u

-- one ticket more
expires_one : (f : Format) (v u : SenderView) (now t : ℕ) → IsExpiredPart f v now u → IsExpiredPart f v now (expire_one now u t)
expires_one f v u now t k = by_due (is_overdue u now t) refl
  where
    of_first : (x : SenderView) → OnlyPast u now x → OnlyPast v now x
    of_first x next l n on =
        elim (next l n on) [
          | inl was ↦ k.only l n was
          | inr past ↦ inr (record { message = past.message; named = ap (λ (ms : Lane → List Message). slice_get (ms l) n) (sym k.messages) ∙ past.named; past = past.past })
        ]

    by_due : (b : Bool) → is_overdue u now t ≡ b → IsExpiredPart f v now (if b then abandon_after u t else u)
    by_due false off = k
    by_due true due = record {
      only = of_first (abandon_after u t) (after_abandon (OnlyPast u now) u t (λ l n on. inl on) (λ waiting l n on. inl on) (λ n is kept. past_given f u now t n k.reached due is));
      messages = messages_stay u t ∙ k.messages;
      reached = Abandons u t k.reached;
    }

pub expires_each : (f : Format) (v u : SenderView) (now : ℕ) (ts : List ℕ) → IsExpiredPart f v now u → IsExpiredPart f v now (fold (expire_one now) u ts)
expires_each f v u now [] k = k
expires_each f v u now (t ∷ ts) k = expires_each f v (expire_one now u t) now ts (expires_one f v u now t k)

expires_all : (f : Format) (v : SenderView) (now : ℕ) → IsReached f v → IsExpiredPart f v now (expired v now)
expires_all f v now h = expires_each f v v now (count_up 1 v.tickets) (record { only = λ l n on. inl on; messages = refl; reached = h })

pub expires_past_alone : (f : Format) (v : SenderView) (now : ℕ) → IsReached f v → OnlyPast v now (expired v now)
expires_past_alone f v now h = (expires_all f v now h).only

-- and the view after it is one that calls reach
pub expired_reached : (f : Format) (v : SenderView) (now : ℕ) → IsReached f v → IsReached f (expired v now)
expired_reached f v now h = (expires_all f v now h).reached
