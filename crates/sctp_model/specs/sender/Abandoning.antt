-- Messages that are abandoned (RFC 3758, 3.5; RFC 8260, 2.3.1): by name, past their lifetime, or retransmitted as often as they may be (RFC 7496, 3.1); and
-- the data timer (RFC 9260, 6.3.3).
use Rattle.std.specs.Prelude.{ℕ, ◌==◌, nat_lt, nat_le, if◌then◌else◌, Bool, true, false, not, ◌&&◌, ◌||◌, List, [], ◌∷◌, Option, fold, find, unwrap_or}
use Rattle.std.specs.Prelude.{option_map, option_and_then, length}
use Rattle.std.specs.Option.{option_map_or}
use Rattle.std.specs.List.{list_any}
use Rattle.sctp_model.specs.numbers.Lists.{at}
use Rattle.sctp_model.specs.messages.Format.{Lane, at_lane}
use Rattle.sctp_model.specs.messages.Plan.{Message, Entry, End, Plan, entry_at, message_at}
use Rattle.sctp_model.specs.sender.SenderView.{Queued, SenderView}
use Rattle.sctp_model.specs.sender.Words.{when, first_there, some_passes, count_up}
use Rattle.sctp_model.specs.sender.Entries.{entry_lane, entry_number, entry_message, is_of, is_in_part, is_unsettled, some_entry, passes_at}
use Rattle.sctp_model.specs.sender.Assigning.{with_entry, without_first}

-- ---- the message of a ticket

-- the message has this ticket
abbrev pub has_ticket : (ticket : ℕ) → Option Message → Bool
has_ticket t m = some_passes (λ x. x.ticket == t) m

-- How a message with a number is found again: by its lane, and its place there.
pub record Name : Type 0 where
  pub lane : Lane
  pub number : ℕ

-- the message that an entry belongs to
abbrev pub name_at : Entry → Name
name_at e = record { lane = entry_lane e; number = entry_number e }

-- the message with this ticket among those of some entries
abbrev pub name_among : Plan → (ticket : ℕ) → List Entry → Option Name
name_among p t es = option_map name_at (find (λ e. has_ticket t (entry_message p e)) es)

-- The message with this ticket, if it has a number: so it has an index, too.
abbrev pub name_of : SenderView → (ticket : ℕ) → Option Name
name_of v t = name_among v.plan t v.plan.entries

-- a message of the queue has this ticket
abbrev pub waits : (ticket : ℕ) → List Queued → Bool
waits t qs = list_any (λ q. q.message.ticket == t) qs

-- the messages that wait when that one is withdrawn
abbrev pub without : (ticket : ℕ) → List Queued → List Queued
without t qs = without_first (λ q. q.message.ticket == t) qs

-- ---- what became of a message with a number

-- it was abandoned
abbrev pub is_abandoned : SenderView → Name → Bool
is_abandoned v n = v.abandoned n.lane n.number

-- one of its indexes is not covered
abbrev pub has_uncovered : SenderView → Name → Bool
has_uncovered v n = some_entry v (λ i e. is_of n.lane n.number e && not (v.covered i))

-- Acknowledged whole: each fragment has an index, and each index is covered.
abbrev pub is_covered : SenderView → Name → Bool
is_covered v n = not (is_in_part v n.lane n.number) && not (has_uncovered v n)

-- ---- what abandoning a ticket is answered

-- what `abandon` says of a ticket's message
pub data AbandonAnswer : Type 0 where
  -- it has no number, and won't take one; it is abandoned; it was acknowledged whole; there is none; it may not be abandoned
  Withdrawn Abandoned Acknowledged Unknown Reliable : AbandonAnswer

-- By these answers the message is given up: it was withdrawn or abandoned, by this call or before.
abbrev pub gives_up : AbandonAnswer → Bool
gives_up Withdrawn = true
gives_up Abandoned = true
gives_up Acknowledged = false
gives_up Unknown = false
gives_up Reliable = false

-- of a message with a number: abandoned already; else acknowledged; else not to be abandoned; and else it is abandoned now
abbrev pub numbered_answer : SenderView → Name → AbandonAnswer
numbered_answer v n = unwrap_or
    (first_there (when (is_abandoned v n) Abandoned ∷ when (is_covered v n) Acknowledged ∷ when (not v.partial) Reliable ∷ [])) Abandoned

-- What `abandon` answers: for a message with a number as above; a ticket that was given has a message without a number; no other has one.
abbrev pub abandon_answer : SenderView → (ticket : ℕ) → AbandonAnswer
abandon_answer v t = unwrap_or (first_there (option_map (numbered_answer v) (name_of v t) ∷ when (nat_lt 0 t && nat_le t v.tickets) Withdrawn ∷ [])) Unknown

-- ---- what abandoning does

-- A message in part takes no further fragment: one index more is assigned, to its end mark (RFC 8260, 2.3.1: so its number isn't used again).
abbrev pub ended : SenderView → Name → Plan
ended v n = if is_in_part v n.lane n.number then with_entry v.plan (End n.lane n.number) else v.plan

-- the message is abandoned, and none of its fragments is to be repeated
abbrev pub with_abandoned : SenderView → Name → SenderView
with_abandoned v n = record v {
  plan = ended v n;
  abandoned = at_lane v.abandoned n.lane (at (v.abandoned n.lane) n.number true);
  marked = λ i. v.marked i && not (passes_at v.plan (λ j e. is_of n.lane n.number e) i);
}

-- a message with a number may be abandoned if that is allowed, and it neither was before nor is acknowledged
abbrev pub may_abandon_named : SenderView → Name → Bool
may_abandon_named v n = v.partial && (not (is_abandoned v n) && not (is_covered v n))

-- it is abandoned if it may be
abbrev pub abandon_named : SenderView → Name → SenderView
abandon_named v n = if may_abandon_named v n then with_abandoned v n else v

-- The view after `abandon`: a message without a number leaves the queue.
abbrev pub abandon_after : SenderView → (ticket : ℕ) → SenderView
abandon_after v t = option_map_or (abandon_named v) (name_of v t) (record v { queue = without t v.queue })

-- the message with this ticket may be abandoned: it waits for its number, or it has one
abbrev pub may_abandon : SenderView → (ticket : ℕ) → Bool
may_abandon v t = option_map_or (may_abandon_named v) (name_of v t) (waits t v.queue)

-- ---- what is past its time

-- the time until which it is worth sending is now or was before
abbrev pub is_past : (now : ℕ) → Message → Bool
is_past now m = some_passes (λ until. nat_le until now) m.until

-- the message with this ticket, whether it waits or has a number
abbrev pub message_with : SenderView → (ticket : ℕ) → Option Message
message_with v t = first_there (
    option_map (λ q. q.message) (find (λ q. q.message.ticket == t) v.queue)
    ∷ option_and_then (λ n. message_at v.plan n.lane n.number) (name_of v t)
    ∷ [])

-- that message is past its time
abbrev pub is_overdue : SenderView → (now ticket : ℕ) → Bool
is_overdue v now t = some_passes (is_past now) (message_with v t)

-- then it is abandoned
abbrev pub expire_one : (now : ℕ) → SenderView → (ticket : ℕ) → SenderView
expire_one now v t = if is_overdue v now t then abandon_after v t else v

-- it is past its time, and may be abandoned
abbrev pub is_to_expire : SenderView → (now ticket : ℕ) → Bool
is_to_expire v now t = is_overdue v now t && may_abandon v t

-- some message is: then EXPIRE has something to do
abbrev pub has_late : SenderView → (now : ℕ) → Bool
has_late v now = list_any (is_to_expire v now) (count_up 1 v.tickets)

-- EXPIRE: so it goes with each ticket given, by rising number.
abbrev pub expired : SenderView → (now : ℕ) → SenderView
expired v now = fold (expire_one now) v (count_up 1 v.tickets)

-- ---- what was retransmitted as often as it may be (RFC 7496, 3.1)

-- a fragment that was retransmitted n times may not be again, by its message's limit
abbrev pub is_used_up : (repeats : ℕ) → Message → Bool
is_used_up repeats m = some_passes (λ limit. nat_le limit repeats) m.limit

-- The fragment at an index was retransmitted as often as its message's limit allows. If messages may not be abandoned, no limit counts: each is
-- retransmitted until it is acknowledged.
abbrev pub is_worn : SenderView → ℕ → Entry → Bool
is_worn v i e = v.partial && some_passes (is_used_up (v.repeats i)) (entry_message v.plan e)

-- it was sent, isn't settled, and may be retransmitted
abbrev pub is_to_repeat : SenderView → ℕ → Entry → Bool
is_to_repeat v i e = is_unsettled v i e && not (is_worn v i e)

-- the index passes, and its fragment was sent, isn't settled, and may not be retransmitted
abbrev pub is_worn_at : (ℕ → Bool) → SenderView → ℕ → Bool
is_worn_at test v i = test i && passes_at v.plan (λ j e. is_unsettled v j e && is_worn v j e) i

-- the ticket of the message at an index
abbrev pub ticket_at : SenderView → ℕ → ℕ
ticket_at v i = unwrap_or (option_map (λ m. m.ticket) (option_and_then (entry_message v.plan) (entry_at v.plan i))) 0

-- then that message is abandoned
abbrev pub wear_one : (ℕ → Bool) → SenderView → (index : ℕ) → SenderView
wear_one test v i = if is_worn_at test v i then abandon_after v (ticket_at v i) else v

-- WEAR: so for each index that passes, by rising index (RFC 7496, 3.1).
abbrev pub worn : (ℕ → Bool) → SenderView → SenderView
worn test v = fold (wear_one test) v (count_up 1 (length v.plan.entries))

-- ---- the data timer

-- the entry at this index, if there is one, is to be retransmitted
abbrev pub unsettled_at : SenderView → ℕ → Option Entry → Bool
unsettled_at v i e = some_passes (is_to_repeat v i) e

-- Of the indexes that pass, those that were sent, aren't settled and may be retransmitted are marked for that.
abbrev pub marking : SenderView → (ℕ → Bool) → SenderView
marking v test = record v { marked = λ i. v.marked i || (test i && unsettled_at v i (entry_at v.plan i)) }

-- The data timer expires: of all indexes (RFC 9260, 6.3.3).
abbrev pub timed_out : SenderView → SenderView
timed_out v = marking v (λ i. true)
