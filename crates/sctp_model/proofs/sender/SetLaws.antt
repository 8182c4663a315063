-- What every view that calls reach keeps: its constants; and of each message that waits, that it has a fragment and a stream that is there.
use Rattle.std.proofs.Common.{◌≡◌, ℕ, ◌+◌, ◌<◌, ◌≤◌, List, [], ◌∷◌, ◌++◌, length, Bool, true, false, Some, None, refl, subst, arith}
use Rattle.std.specs.Prelude.{◌==◌, nat_le, nat_lt, ◌||◌, if◌then◌else◌}
use Rattle.std.proofs.lemmas.Bool.Decides.{nat_tests}
use Rattle.sctp_model.specs.numbers.Limits.{QUEUE_LIMIT, TICKET_LIMIT, TSN_LIMIT}
use Rattle.sctp_model.specs.messages.Format.{Format}
use Rattle.sctp_model.specs.sender.SenderView.{Queued, SenderView}
use Rattle.sctp_model.specs.sender.Outgoing.{is_sending}
use Rattle.sctp_model.specs.sender.Queueing.{refusal, NoSuchStream, Resetting, Empty, TooLong, QueueFull, Spent, cut, owed_for, promised, is_over}
use Rattle.sctp_model.specs.sender.Assigning.{is_on, without_first}
use Rattle.sctp_model.specs.sender.Reached.{IsReached, Begins, Queues, Goes, Covers, Closes, Abandons, Repeats, Rebases}
use Rattle.sctp_model.proofs.sender.CutLaws.{cut_some}
use Rattle.sctp_model.proofs.sender.WishCases.{IsAssigned, Whole, Begun, Continued, after_wish}
use Rattle.sctp_model.proofs.sender.AbandonCases.{after_abandon}

-- ---- constants

pub record IsSet (v : SenderView) : Type 0 where
  pub fragment : 0 < v.fragment
  pub turn : 0 < v.streams → v.turn < v.streams

set_assigned : (f : Format) (v u : SenderView) → IsSet v → IsAssigned v f u → IsSet u
set_assigned _ v _ h (Whole q rest is) = record { fragment = h.fragment; turn = h.turn }
set_assigned _ v _ h (Begun s q lt on first) = record { fragment = h.fragment; turn = λ some. omega arith }
set_assigned _ v _ h (Continued s e lt on) = record { fragment = h.fragment; turn = λ some. omega arith }

pub is_set : (f : Format) (v : SenderView) → IsReached f v → IsSet v
is_set f _ (Begins i s b r p most large) = record { fragment = large; turn = λ some. some }
is_set f _ (Queues v l p b u n h free) = let k = is_set f v h in record { fragment = k.fragment; turn = k.turn }
is_set f _ (Goes v room w h next may) =
    let k = is_set f v h in
    after_wish IsSet f v w k (λ u a. set_assigned f v u k a) (λ u i x. record { fragment = x.fragment; turn = x.turn }) next
is_set f _ (Covers v x h none) = let k = is_set f v h in record { fragment = k.fragment; turn = k.turn }
is_set f _ (Closes v x h none) = let k = is_set f v h in record { fragment = k.fragment; turn = k.turn }
is_set f _ (Abandons v t h) =
    let k = is_set f v h in
    after_abandon IsSet v t k (λ on. record { fragment = k.fragment; turn = k.turn }) (λ n is kept. record { fragment = k.fragment; turn = k.turn })
is_set f _ (Repeats v test h) = let k = is_set f v h in record { fragment = k.fragment; turn = k.turn }
is_set f _ (Rebases v x h) = let k = is_set f v h in record { fragment = k.fragment; turn = k.turn }

-- ---- what an accepted message is

pub record IsAccepted (v : SenderView) (stream : ℕ) (bytes : List ℕ) : Type 0 where
  pub there : stream < v.streams
  pub sends : is_sending (v.resets.sending stream) ≡ true
  pub some : 0 < length bytes
  pub short : length bytes ≤ v.limits.message
  pub waits : length v.queue < QUEUE_LIMIT
  pub ticket : v.tickets < TICKET_LIMIT
  pub owed : promised v + owed_for (length (cut v.fragment bytes)) ≤ TSN_LIMIT

pub accepted : (v : SenderView) (stream : ℕ) (bytes : List ℕ) → refusal v stream bytes ≡ None → IsAccepted v stream bytes
accepted v stream bytes none = by_stream (nat_le v.streams stream) refl
  where
    by_spent : (b : Bool) → nat_le v.streams stream ≡ false → is_sending (v.resets.sending stream) ≡ true → (length bytes == 0) ≡ false → nat_lt v.limits.message (length bytes) ≡ false → (nat_le QUEUE_LIMIT (length v.queue) || is_over v bytes) ≡ false
        → (nat_le TICKET_LIMIT v.tickets || nat_lt TSN_LIMIT (promised v + owed_for (length (cut v.fragment bytes)))) ≡ b → IsAccepted v stream bytes
    by_spent true a z d e g spent = let some : Some Spent ≡ None = rw (a, z, d, e, g, spent) at none in absurd (cc)
    by_spent false a z d e g spent =
        let parts = off_parts (nat_le TICKET_LIMIT v.tickets) (nat_lt TSN_LIMIT (promised v + owed_for (length (cut v.fragment bytes)))) spent in
        let place = (off_parts (nat_le QUEUE_LIMIT (length v.queue)) (is_over v bytes) g).0 in
        let ticket = parts.0 in
        let owed = parts.1 in
        record {
          there = grind (arith, nat_tests);
          sends = z;
          some = grind (arith, nat_tests);
          short = grind (arith, nat_tests);
          waits = grind (arith, nat_tests);
          ticket = grind (arith, nat_tests);
          owed = grind (arith, nat_tests);
        }
      where
        off_parts : (x y : Bool) → (x || y) ≡ false → (x ≡ false) × (y ≡ false)
        off_parts true y off = absurd (cc)
        off_parts false y off = (refl, off)

    by_full : (b : Bool) → nat_le v.streams stream ≡ false → is_sending (v.resets.sending stream) ≡ true → (length bytes == 0) ≡ false → nat_lt v.limits.message (length bytes) ≡ false → (nat_le QUEUE_LIMIT (length v.queue) || is_over v bytes) ≡ b → IsAccepted v stream bytes
    by_full true a z d e full = let some : Some QueueFull ≡ None = rw (a, z, d, e, full) at none in absurd (cc)
    by_full false a z d e full = by_spent (nat_le TICKET_LIMIT v.tickets || nat_lt TSN_LIMIT (promised v + owed_for (length (cut v.fragment bytes)))) a z d e full refl

    by_long : (b : Bool) → nat_le v.streams stream ≡ false → is_sending (v.resets.sending stream) ≡ true → (length bytes == 0) ≡ false → nat_lt v.limits.message (length bytes) ≡ b → IsAccepted v stream bytes
    by_long true a z d long = let some : Some TooLong ≡ None = rw (a, z, d, long) at none in absurd (cc)
    by_long false a z d long = by_full (nat_le QUEUE_LIMIT (length v.queue) || is_over v bytes) a z d long refl

    by_empty : (b : Bool) → nat_le v.streams stream ≡ false → is_sending (v.resets.sending stream) ≡ true → (length bytes == 0) ≡ b → IsAccepted v stream bytes
    by_empty true a z empty = let some : Some Empty ≡ None = rw (a, z, empty) at none in absurd (cc)
    by_empty false a z empty = by_long (nat_lt v.limits.message (length bytes)) a z empty refl

    by_reset : (b : Bool) → nat_le v.streams stream ≡ false → is_sending (v.resets.sending stream) ≡ b → IsAccepted v stream bytes
    by_reset false a z = let some : Some Resetting ≡ None = rw (a, z) at none in absurd (cc)
    by_reset true a z = by_empty (length bytes == 0) a z refl

    by_stream : (b : Bool) → nat_le v.streams stream ≡ b → IsAccepted v stream bytes
    by_stream true out = let some : Some NoSuchStream ≡ None = rw out at none in absurd (cc)
    by_stream false out = by_reset (is_sending (v.resets.sending stream)) out refl

-- ---- tickets

tickets_assigned : (f : Format) (v u : SenderView) → IsAssigned v f u → v.tickets ≤ TICKET_LIMIT → u.tickets ≤ TICKET_LIMIT
tickets_assigned _ v _ (Whole q rest is) h = h
tickets_assigned _ v _ (Begun s q lt on first) h = h
tickets_assigned _ v _ (Continued s e lt on) h = h

-- no more are given than there are: that is refused as Spent
pub few_tickets : (f : Format) (v : SenderView) → IsReached f v → v.tickets ≤ TICKET_LIMIT
few_tickets f _ (Begins i s b r p most large) = omega arith
few_tickets f _ (Queues v l p b u n h free) = let a = accepted v l.stream b free in omega (arith, a.ticket)
few_tickets f _ (Goes v room w h next may) = after_wish (λ u. u.tickets ≤ TICKET_LIMIT) f v w (few_tickets f v h) (λ u a. tickets_assigned f v u a (few_tickets f v h)) (λ u i x. x) next
few_tickets f _ (Covers v x h none) = few_tickets f v h
few_tickets f _ (Closes v x h none) = few_tickets f v h
few_tickets f _ (Abandons v t h) = after_abandon (λ u. u.tickets ≤ TICKET_LIMIT) v t (few_tickets f v h) (λ on. few_tickets f v h) (λ n is kept. few_tickets f v h)
few_tickets f _ (Repeats v test h) = few_tickets f v h
few_tickets f _ (Rebases v x h) = few_tickets f v h

-- ---- messages that wait have a fragment, and are of a stream that is there

abbrev pub AllFilled : ℕ → List Queued → Type 0
AllFilled n [] = Unit {0}
AllFilled n (q ∷ qs) = ((0 < length q.message.fragments) × (q.lane.stream < n)) × AllFilled n qs

filled_push : (n : ℕ) (qs : List Queued) (q : Queued) → AllFilled n qs → 0 < length q.message.fragments → q.lane.stream < n → AllFilled n (qs ++ q ∷ [])
filled_push n [] q h some there = ((some, there), tt)
filled_push n (x ∷ qs) q h some there = (h.0, filled_push n qs q h.1 some there)

-- whichever message is taken out
pub filled_rest : (n : ℕ) (meant : Queued → Bool) (qs : List Queued) → AllFilled n qs → AllFilled n (without_first meant qs)
filled_rest n meant [] h = tt
filled_rest n meant (q ∷ qs) h = by_test (meant q) (filled_rest n meant qs h.1)
  where
    by_test : (b : Bool) → AllFilled n (without_first meant qs) → AllFilled n (if b then qs else q ∷ without_first meant qs)
    by_test true rest = h.1
    by_test false rest = (h.0, rest)

filled_assigned : (f : Format) (v u : SenderView) → AllFilled v.streams v.queue → IsAssigned v f u → AllFilled u.streams u.queue
filled_assigned _ v _ h (Whole q rest is) = (subst (λ (qs : List Queued). AllFilled v.streams qs) is h).1
filled_assigned _ v _ h (Begun s q lt on first) = filled_rest v.streams (is_on s) v.queue h
filled_assigned _ v _ h (Continued s e lt on) = h

-- all messages of the queue
abbrev pub IsQueueFilled : SenderView → Type 0
IsQueueFilled v = AllFilled v.streams v.queue

pub is_filled : (f : Format) (v : SenderView) → IsReached f v → AllFilled v.streams v.queue
is_filled f _ (Begins i s b r p most large) = tt
is_filled f _ (Queues v l p b u n h free) =
    let a = accepted v l.stream b free in
    filled_push v.streams v.queue _ (is_filled f v h) (cut_some v.fragment b (is_set f v h).fragment a.some) a.there
is_filled f _ (Goes v room w h next may) = after_wish IsQueueFilled f v w (is_filled f v h) (λ u a. filled_assigned f v u (is_filled f v h) a) (λ u i x. x) next
is_filled f _ (Covers v x h none) = is_filled f v h
is_filled f _ (Closes v x h none) = is_filled f v h
is_filled f _ (Abandons v t h) = let k = is_filled f v h in after_abandon IsQueueFilled v t k (λ on. filled_rest v.streams _ v.queue k) (λ n is kept. k)
is_filled f _ (Repeats v test h) = is_filled f v h
is_filled f _ (Rebases v x h) = is_filled f v h
