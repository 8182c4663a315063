-- Time and the user turn an endpoint plainly too.
use Rattle.std.proofs.Common.{◌≡◌, ℕ, ◌⊎◌, inl, inr, not, ◌||◌, ◌==◌, Bool, true, false, List, [], ◌∷◌, Option, Some, None, refl, sym, subst}
use Rattle.sctp_model.specs.world.Calls.{Call}
use Rattle.sctp_model.specs.receiver.ReceiverView.{Handed}
use Rattle.sctp_model.specs.sender.SenderView.{SenderView}
use Rattle.sctp_model.specs.end.EndView.{Established, ShutdownPending, ShutdownSent, ShutdownReceived, ShutdownAckSent, AbortedHere, TimedOut, Phase, Idle, Listening, Calling, Echoing, Open, Over, Alarm, InitAlarm, CookieAlarm, DataAlarm, ShutdownAlarm, AckAlarm, ResetAlarm, BeatAlarm, GuardAlarm, EndView, has_association}
use Rattle.sctp_model.specs.end.Clock.{settled, turned, is_over_at, may_go_on, closed, at_moment, with_timer}
use Rattle.sctp_model.specs.end.Clock.{expired_timer}
use Rattle.sctp_model.specs.wire.Packet.{size_of_packet}
use Rattle.sctp_model.specs.sender.Abandoning.{abandon_after, worn}
use Rattle.sctp_model.specs.sender.Readers.{point}
use Rattle.std.specs.Prelude.{if◌then◌else◌, nat_lt, nat_le}
use Rattle.sctp_model.specs.end.Closing.{rested}
use Rattle.sctp_model.specs.end.Moments.{after_abandoning, is_data_due, given_up, due_again, rung, ring, rung_all, all_alarms, passed, ticked, waited_in, waited}
use Rattle.sctp_model.specs.end.Wearing.{wearing}
use Rattle.sctp_model.proofs.PacedEnds.{worn_cases}
use Rattle.sctp_model.specs.end.UserCalls.{SendAnswer, Ticket, Refused, NotOpen, send_leaves, is_open, abandoned_at, UserTakes, ResetCall, Begun, NotAgreed, NoStream, reset_leaves, told_leaves, shut_in, shut, Aborts, TooLong, abort_answer, abort_answer_to, abort_leaves, abort_packet, peer_tag}
use Rattle.sctp_safety.specs.States.{UserShuts}
use Rattle.sctp_safety.proofs.machine.Turns.{rested_has, by_stage, IsPlainTurn, IsPlain, Stays, plain_same, plain_on, plain_rested, goes_from, left_closed}

-- ---- time

pub plain_after_abandoning : (e : EndView) (v : SenderView) → IsPlain e (after_abandoning e v)
plain_after_abandoning e v =
    let mid = settled (record e { sender = v; due = record e.due { forward = e.due.forward || not (point v == point e.sender) } }) in
    plain_on e mid (after_abandoning e v) (record { configuration = refl; role = refl; moment = refl; terms = refl; turn = Stays e.phase }) (plain_rested mid)

-- at the end of a packet
pub plain_worn : (from : ℕ) (e : EndView) → IsPlain e (wearing from e)
plain_worn from e = worn_cases (IsPlain e) from e (plain_same e) (λ test on. plain_after_abandoning e (worn test e.sender))

plain_again : (a : Alarm) (e : EndView) → IsPlain e (due_again a e)
plain_again InitAlarm e = record { configuration = refl; role = refl; moment = refl; terms = refl; turn = Stays e.phase }
plain_again CookieAlarm e = record { configuration = refl; role = refl; moment = refl; terms = refl; turn = Stays e.phase }
plain_again DataAlarm e = record { configuration = refl; role = refl; moment = refl; terms = refl; turn = Stays e.phase }
plain_again ShutdownAlarm e = record { configuration = refl; role = refl; moment = refl; terms = refl; turn = Stays e.phase }
plain_again ResetAlarm e = record { configuration = refl; role = refl; moment = refl; terms = refl; turn = Stays e.phase }
plain_again BeatAlarm e = record { configuration = refl; role = refl; moment = refl; terms = refl; turn = Stays e.phase }
plain_again GuardAlarm e = record { configuration = refl; role = refl; moment = refl; terms = refl; turn = Stays e.phase }
plain_again AckAlarm e = record { configuration = refl; role = refl; moment = refl; terms = refl; turn = Stays e.phase }

-- it has an association still, or a timer gave up
abbrev IsRung : EndView → Type 0
IsRung e = (has_association e.phase ≡ true) ⊎ (e.phase ≡ Over TimedOut)

rung_plain : (b : Bool) (a : Alarm) (e : EndView) → IsRung e → IsPlain e (rung b a e)
rung_plain false a e has = plain_same e
rung_plain true a e has = go (may_go_on a e) has
  where
    go : (c : Bool) → IsRung e → IsPlain e (if c then due_again a (with_timer a (expired_timer e.configuration.longest_wait (e.timers a)) e) else closed TimedOut e)
    go true h =
        plain_on e (with_timer a (expired_timer e.configuration.longest_wait (e.timers a)) e) (due_again a (with_timer a (expired_timer e.configuration.longest_wait (e.timers a)) e))
        (record { configuration = refl; role = refl; moment = refl; terms = refl; turn = Stays e.phase })
        (plain_again a (with_timer a (expired_timer e.configuration.longest_wait (e.timers a)) e))
    go false (inl h) = left_closed e TimedOut h
    go false (inr is) = record {
      configuration = refl;
      role = refl;
      moment = refl;
      terms = refl;
      turn = subst (λ (h : Phase). IsPlainTurn h (Over TimedOut)) (sym is) (Stays (Over TimedOut));
    }

rung_on : (b : Bool) (a : Alarm) (e : EndView) → IsRung e → IsRung (rung b a e)
rung_on false a e has = has
rung_on true a e has = go (may_go_on a e)
  where
    again : (c : Alarm) (t : EndView) → IsRung t → IsRung (due_again c t)
    again InitAlarm t h = h
    again CookieAlarm t h = h
    again DataAlarm t h = h
    again ShutdownAlarm t h = h
    again AckAlarm t h = h
    again ResetAlarm t h = h
    again BeatAlarm t h = h
    again GuardAlarm t h = h

    go : (c : Bool) → IsRung (if c then due_again a (with_timer a (expired_timer e.configuration.longest_wait (e.timers a)) e) else closed TimedOut e)
    go true = again a (with_timer a (expired_timer e.configuration.longest_wait (e.timers a)) e) has
    go false = inr refl

all_plain : (alarms : List Alarm) (e : EndView) → IsRung e → IsPlain e (rung_all alarms e)
all_plain [] e has = plain_same e
all_plain (a ∷ more) e has =
    let b = is_over_at e.moment (e.timers a).expiry in
    plain_on e (ring a e) (rung_all more (ring a e)) (rung_plain b a e has) (all_plain more (ring a e) (rung_on b a e has))

waited_plain : (b : Bool) (e : EndView) → IsPlain e (waited_in b e)
waited_plain false e = plain_same e
waited_plain true e = record { configuration = refl; role = refl; moment = refl; terms = refl; turn = Stays e.phase }

pub plain_ticked : (e : EndView) (now : ℕ) → IsPlain (at_moment e now) (ticked e now)
plain_ticked e now = go (has_association e.phase) refl
  where
    go : (b : Bool) → has_association e.phase ≡ b → IsPlain (at_moment e now) (if b then passed (at_moment e now) else at_moment e now)
    go false is = plain_same (at_moment e now)
    go true is =
        let mid = settled (record (at_moment e now) { sender = given_up (is_data_due (at_moment e now)) (at_moment e now).sender (at_moment e now).moment; due = record e.due { forward = e.due.forward || not (point (given_up (is_data_due (at_moment e now)) (at_moment e now).sender (at_moment e now).moment) == point e.sender) } }) in
        let u = after_abandoning (at_moment e now) (given_up (is_data_due (at_moment e now)) (at_moment e now).sender (at_moment e now).moment) in
        let g = plain_after_abandoning (at_moment e now) (given_up (is_data_due (at_moment e now)) (at_moment e now).sender (at_moment e now).moment) in
        let r = rung_all all_alarms u in
        plain_on (at_moment e now) r (waited r) (plain_on (at_moment e now) u r g (all_plain all_alarms u (inl (rested_has mid is)))) (waited_plain (is_over_at r.moment r.delayed) r)

-- ---- the user

pub plain_sent : (e : EndView) (c : Call) (a : SendAnswer) → IsPlain e (send_leaves a e c)
plain_sent e c (Ticket t) = record { configuration = refl; role = refl; moment = refl; terms = refl; turn = Stays e.phase }
plain_sent e c (Refused r) = plain_same e
plain_sent e c NotOpen = plain_same e

pub plain_abandoned : (e : EndView) (k : ℕ) → IsPlain e (abandoned_at e k)
plain_abandoned e k = go (is_open e.phase)
  where
    go : (b : Bool) → IsPlain e (if b then after_abandoning e (abandon_after e.sender k) else record e { sender = abandon_after e.sender k })
    go true = plain_after_abandoning e (abandon_after e.sender k)
    go false = record { configuration = refl; role = refl; moment = refl; terms = refl; turn = Stays e.phase }

pub plain_taken : (e : EndView) (n : ℕ) (h : Option Handed) (t : EndView) → UserTakes e n h t → IsPlain e t
plain_taken e n h t k = subst (IsPlain e) (sym k.leaves) (record { configuration = refl; role = refl; moment = refl; terms = refl; turn = Stays e.phase })

pub plain_reset : (e : EndView) (c : ResetCall) (n : ℕ) → IsPlain e (reset_leaves c e n)
plain_reset e Begun n = record { configuration = refl; role = refl; moment = refl; terms = refl; turn = Stays e.phase }
plain_reset e NotAgreed n = plain_same e
plain_reset e NoStream n = plain_same e

pub plain_told : (e : EndView) (o : Option ℕ) → IsPlain e (told_leaves o e)
plain_told e None = plain_same e
plain_told e (Some n) = record { configuration = refl; role = refl; moment = refl; terms = refl; turn = Stays e.phase }

pub plain_shut : (e : EndView) → IsPlain e (shut e)
plain_shut e = go e.phase refl
  where
    go : (h : Phase) → e.phase ≡ h → IsPlain e (shut_in h e)
    go (Open t Established) is =
        let mid = turned (Open t ShutdownPending) e in
        plain_on e mid (rested mid) (record { configuration = refl; role = refl; moment = refl; terms = refl; turn = goes_from e t Established ShutdownPending is (by_stage t Established ShutdownPending UserShuts) }) (plain_rested mid)
    go (Open t ShutdownPending) is = plain_same e
    go (Open t ShutdownSent) is = plain_same e
    go (Open t ShutdownReceived) is = plain_same e
    go (Open t ShutdownAckSent) is = plain_same e
    go Idle is = plain_same e
    go Listening is = plain_same e
    go (Calling d) is = plain_same e
    go (Echoing t xs) is = plain_same e
    go (Over why) is = plain_same e

pub plain_aborted : (e : EndView) (r : List ℕ) → IsPlain e (abort_leaves (abort_answer e r) e)
plain_aborted e r = go (peer_tag e.phase) refl
  where
    knows : (h : Phase) (n : ℕ) → peer_tag h ≡ Some n → has_association h ≡ true
    knows Idle n q = absurd (cc)
    knows Listening n q = absurd (cc)
    knows (Calling d) n q = refl
    knows (Echoing t xs) n q = refl
    knows (Open t g) n q = refl
    knows (Over why) n q = absurd (cc)

    by : (n : ℕ) → peer_tag e.phase ≡ Some n → (b : Bool) → IsPlain e (abort_leaves (if b then Aborts (abort_packet e n r) else TooLong) e)
    by n is true = left_closed e AbortedHere (knows e.phase n is)
    by n is false = plain_same e

    go : (o : Option ℕ) → peer_tag e.phase ≡ o → IsPlain e (abort_leaves (abort_answer_to e r o) e)
    go None is = plain_same e
    go (Some n) is = by n is (nat_le (size_of_packet (abort_packet e n r).chunks) e.configuration.limit)
