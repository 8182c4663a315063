-- Time and the calls of a user that take no message leave an endpoint its receiver, its terms and its configuration.
use Rattle.std.proofs.Common.{◌≡◌, ℕ, not, ◌||◌, ◌==◌, Bool, true, false, List, [], ◌∷◌, refl, ◌∙◌}
use Rattle.std.specs.Prelude.{if◌then◌else◌, nat_lt}
use Rattle.sctp_model.specs.world.Calls.{Call}
use Rattle.sctp_model.specs.sender.SenderView.{SenderView}
use Rattle.sctp_model.specs.sender.Readers.{point}
use Rattle.sctp_model.specs.sender.Abandoning.{abandon_after, worn}
use Rattle.sctp_model.specs.end.EndView.{TimedOut, Phase, Idle, Listening, Calling, Echoing, Open, Over, Established, ShutdownPending, ShutdownSent, ShutdownReceived, ShutdownAckSent, Alarm, InitAlarm, CookieAlarm, DataAlarm, ShutdownAlarm, AckAlarm, EndView, has_association, ResetAlarm, BeatAlarm, GuardAlarm}
use Rattle.sctp_model.specs.end.Clock.{at_moment, closed, settled, turned, with_timer, is_over_at, may_go_on}
use Rattle.sctp_model.specs.end.Clock.{expired_timer}
use Rattle.sctp_model.specs.end.Closing.{rested}
use Rattle.sctp_model.specs.end.Moments.{after_abandoning, is_data_due, given_up, due_again, rung, ring, rung_all, all_alarms, waited_in, waited, passed, ticked}
use Rattle.sctp_model.specs.end.Wearing.{wearing}
use Rattle.sctp_model.proofs.PacedEnds.{worn_cases}
use Rattle.sctp_model.specs.end.UserCalls.{SendAnswer, Ticket, Refused, NotOpen, send_leaves, is_open, abandoned_at, shut_in, shut, AbortAnswer, Aborts, NoPeer, TooLong, abort_leaves}
use Rattle.sctp_safety.proofs.machine.EndWords.{rested_cases}

-- an endpoint whose receiver, terms and configuration are another's
pub record IsUnheard (e t : EndView) : Type 0 where
  pub receiver : t.receiver ≡ e.receiver
  pub terms : t.terms ≡ e.terms
  pub configuration : t.configuration ≡ e.configuration

pub unheard : (e : EndView) → IsUnheard e e
unheard e = record { receiver = refl; terms = refl; configuration = refl }

pub unheard_on : (e t u : EndView) → IsUnheard e t → IsUnheard t u → IsUnheard e u
unheard_on e t u a b = record { receiver = b.receiver ∙ a.receiver; terms = b.terms ∙ a.terms; configuration = b.configuration ∙ a.configuration }

pub unheard_rested : (e : EndView) → IsUnheard e (rested e)
unheard_rested e = rested_cases (IsUnheard e) e (unheard e) (λ t is d. record { receiver = refl; terms = refl; configuration = refl }) (λ t is d. record { receiver = refl; terms = refl; configuration = refl })

-- ---- time

pub unheard_after_abandoning : (e : EndView) (v : SenderView) → IsUnheard e (after_abandoning e v)
unheard_after_abandoning e v =
    let mid = settled (record e { sender = v; due = record e.due { forward = e.due.forward || not (point v == point e.sender) } }) in
    unheard_on e mid (after_abandoning e v) (record { receiver = refl; terms = refl; configuration = refl }) (unheard_rested mid)

-- at the end of a packet
pub unheard_worn : (from : ℕ) (e : EndView) → IsUnheard e (wearing from e)
unheard_worn from e = worn_cases (IsUnheard e) from e (unheard e) (λ test on. unheard_after_abandoning e (worn test e.sender))

pub unheard_again : (a : Alarm) (e : EndView) → IsUnheard e (due_again a e)
unheard_again InitAlarm e = record { receiver = refl; terms = refl; configuration = refl }
unheard_again CookieAlarm e = record { receiver = refl; terms = refl; configuration = refl }
unheard_again DataAlarm e = record { receiver = refl; terms = refl; configuration = refl }
unheard_again ShutdownAlarm e = record { receiver = refl; terms = refl; configuration = refl }
unheard_again AckAlarm e = record { receiver = refl; terms = refl; configuration = refl }
unheard_again ResetAlarm e = record { receiver = refl; terms = refl; configuration = refl }
unheard_again BeatAlarm e = record { receiver = refl; terms = refl; configuration = refl }
unheard_again GuardAlarm e = record { receiver = refl; terms = refl; configuration = refl }

pub unheard_rung : (b : Bool) (a : Alarm) (e : EndView) → IsUnheard e (rung b a e)
unheard_rung false a e = unheard e
unheard_rung true a e = go (may_go_on a e)
  where
    go : (c : Bool) → IsUnheard e (if c then due_again a (with_timer a (expired_timer e.configuration.longest_wait (e.timers a)) e) else closed TimedOut e)
    go true =
        unheard_on e (with_timer a (expired_timer e.configuration.longest_wait (e.timers a)) e) (due_again a (with_timer a (expired_timer e.configuration.longest_wait (e.timers a)) e))
        (record { receiver = refl; terms = refl; configuration = refl }) (unheard_again a (with_timer a (expired_timer e.configuration.longest_wait (e.timers a)) e))
    go false = record { receiver = refl; terms = refl; configuration = refl }

pub unheard_all : (alarms : List Alarm) (e : EndView) → IsUnheard e (rung_all alarms e)
unheard_all [] e = unheard e
unheard_all (a ∷ more) e = unheard_on e (ring a e) (rung_all more (ring a e)) (unheard_rung (is_over_at e.moment (e.timers a).expiry) a e) (unheard_all more (ring a e))

pub unheard_waited : (b : Bool) (e : EndView) → IsUnheard e (waited_in b e)
unheard_waited false e = unheard e
unheard_waited true e = record { receiver = refl; terms = refl; configuration = refl }

pub unheard_ticked : (e : EndView) (now : ℕ) → IsUnheard e (ticked e now)
unheard_ticked e now = go (has_association e.phase)
  where
    go : (b : Bool) → IsUnheard e (if b then passed (at_moment e now) else at_moment e now)
    go false = record { receiver = refl; terms = refl; configuration = refl }
    go true =
        let m = at_moment e now in
        let u = after_abandoning m (given_up (is_data_due m) m.sender m.moment) in
        let r = rung_all all_alarms u in
        let abandoned = unheard_on e m u (record { receiver = refl; terms = refl; configuration = refl }) (unheard_after_abandoning m (given_up (is_data_due m) m.sender m.moment)) in
        unheard_on e r (waited r) (unheard_on e u r abandoned (unheard_all all_alarms u)) (unheard_waited (is_over_at r.moment r.delayed) r)

-- ---- the user

pub unheard_sent : (e : EndView) (c : Call) (a : SendAnswer) → IsUnheard e (send_leaves a e c)
unheard_sent e c (Ticket t) = record { receiver = refl; terms = refl; configuration = refl }
unheard_sent e c (Refused r) = unheard e
unheard_sent e c NotOpen = unheard e

pub unheard_abandoned : (e : EndView) (k : ℕ) → IsUnheard e (abandoned_at e k)
unheard_abandoned e k = go (is_open e.phase)
  where
    go : (b : Bool) → IsUnheard e (if b then after_abandoning e (abandon_after e.sender k) else record e { sender = abandon_after e.sender k })
    go true = unheard_after_abandoning e (abandon_after e.sender k)
    go false = record { receiver = refl; terms = refl; configuration = refl }

pub unheard_shut : (e : EndView) → IsUnheard e (shut e)
unheard_shut e = go e.phase
  where
    go : (h : Phase) → IsUnheard e (shut_in h e)
    go (Open t Established) = unheard_on e (turned (Open t ShutdownPending) e) (rested (turned (Open t ShutdownPending) e)) (record { receiver = refl; terms = refl; configuration = refl }) (unheard_rested (turned (Open t ShutdownPending) e))
    go (Open t ShutdownPending) = unheard e
    go (Open t ShutdownSent) = unheard e
    go (Open t ShutdownReceived) = unheard e
    go (Open t ShutdownAckSent) = unheard e
    go Idle = unheard e
    go Listening = unheard e
    go (Calling d) = unheard e
    go (Echoing t xs) = unheard e
    go (Over why) = unheard e

pub unheard_aborted : (e : EndView) (a : AbortAnswer) → IsUnheard e (abort_leaves a e)
unheard_aborted e (Aborts p) = record { receiver = refl; terms = refl; configuration = refl }
unheard_aborted e NoPeer = unheard e
unheard_aborted e TooLong = unheard e
