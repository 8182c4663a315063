-- Time at an endpoint: messages past their lifetime are abandoned, then each timer that is due expires once, and a delayed SACK is due (RFC 9260, 6.2,
-- 6.3.3, 5.1 and 9.2; RFC 3758, 3.5).
use Rattle.std.specs.Prelude.{ℕ, min, Bool, true, false, not, ◌||◌, ◌==◌, if◌then◌else◌, List, [], ◌∷◌, Option, Some, None, option_map}
use Rattle.sctp_model.specs.sender.SenderView.{SenderView}
use Rattle.sctp_model.specs.sender.Readers.{point}
use Rattle.sctp_model.specs.sender.Resetting.{retried}
use Rattle.sctp_model.specs.sender.Abandoning.{expired, worn, timed_out}
use Rattle.sctp_model.specs.end.EndView.{TimedOut, Alarm, InitAlarm, CookieAlarm, DataAlarm, ShutdownAlarm, AckAlarm, ResetAlarm, Timer, EndView}
use Rattle.sctp_model.specs.end.EndView.{has_association, BeatAlarm, GuardAlarm}
use Rattle.sctp_model.specs.end.Clock.{is_over_at, with_timer, at_moment, closed, is_point_past, settled}
use Rattle.sctp_model.specs.end.Clock.{expired_timer, may_go_on}
use Rattle.sctp_model.specs.end.Pacing.{expired_pace}
use Rattle.sctp_model.specs.end.Beating.{beat_again}
use Rattle.sctp_model.specs.end.Closing.{with_due, rested}

-- ---- giving up

-- What giving up messages leaves: a FORWARD is due if the point moved, and the endpoint goes on with closing if its sender is drained (RFC 3758, 3.5).
abbrev pub after_abandoning : EndView → SenderView → EndView
after_abandoning e v =
    rested (settled (record e { sender = v; due = record e.due { forward = e.due.forward || not (point v == point e.sender) } }))

-- ---- timers

-- what goes out once more after an expiry (RFC 9260, 6.3.3); of the data timer all that is unsettled, and a FORWARD if the point is past CUM;
-- a request in progress takes its next number
abbrev pub due_again : Alarm → EndView → EndView
due_again InitAlarm e = with_due (record e.due { init = true }) e
due_again CookieAlarm e = with_due (record e.due { cookie_echo = true }) e
due_again DataAlarm e = record e {
  sender = timed_out e.sender;
  due = record e.due { forward = is_point_past e.sender };
  pace = option_map (expired_pace e.sender) e.pace;
}
due_again ShutdownAlarm e = with_due (record e.due { shutdown = true }) e
due_again AckAlarm e = with_due (record e.due { shutdown_ack = true }) e
due_again ResetAlarm e = record e { sender = retried e.sender; due = record e.due { request = true } }
due_again BeatAlarm e = beat_again e
due_again GuardAlarm e = e

-- A timer that is due expires; the last time the endpoint gives up, and sends nothing (8.1).
abbrev pub rung : Bool → Alarm → EndView → EndView
rung false a e = e
rung true a e =
    if may_go_on a e
    then due_again a (with_timer a (expired_timer e.configuration.longest_wait (e.timers a)) e)
    else closed TimedOut e

-- the timer expires if its time is reached
abbrev pub ring : Alarm → EndView → EndView
ring a e = rung (is_over_at e.moment (e.timers a).expiry) a e

-- each of these timers in turn
abbrev pub rung_all : List Alarm → EndView → EndView
rung_all [] e = e
rung_all (a ∷ more) e = rung_all more (ring a e)

-- the timers, in the order in which they expire at one time
abbrev pub all_alarms : List Alarm
all_alarms = InitAlarm ∷ CookieAlarm ∷ DataAlarm ∷ ShutdownAlarm ∷ AckAlarm ∷ ResetAlarm ∷ BeatAlarm ∷ GuardAlarm ∷ []

-- ---- a SACK that waits

-- a SACK that waited long enough is due, and waits no more (6.2)
abbrev pub waited_in : Bool → EndView → EndView
waited_in false e = e
waited_in true e = record e { due = record e.due { sack = true }; delayed = None }

-- so it is if its time is reached
abbrev pub waited : EndView → EndView
waited e = waited_in (is_over_at e.moment e.delayed) e

-- ---- a time

-- the data timer is due
abbrev pub is_data_due : EndView → Bool
is_data_due e = is_over_at e.moment (e.timers DataAlarm).expiry

-- what is abandoned at a time: messages past their lifetime and, if the data timer is due, messages retransmitted as often as they may be (RFC 3758, 3.5;
-- RFC 7496, 3.1)
abbrev pub given_up : Bool → SenderView → (now : ℕ) → SenderView
given_up rings v now = if rings then worn (λ i. true) (expired v now) else expired v now

-- what a time leaves at an endpoint with an association
abbrev pub passed : EndView → EndView
passed e = waited (rung_all all_alarms (after_abandoning e (given_up (is_data_due e) e.sender e.moment)))

-- An endpoint without an association takes the time, and nothing else.
abbrev pub ticked : EndView → ℕ → EndView
ticked e now = if has_association e.phase then passed (at_moment e now) else at_moment e now

-- ---- when the endpoint is to be given the time again

-- the earlier of two times, if there are any
abbrev pub earlier : Option ℕ → Option ℕ → Option ℕ
earlier None n = n
earlier (Some m) None = Some m
earlier (Some m) (Some n) = Some (min m n)

-- the earliest expiry among these timers
abbrev pub earliest : (Alarm → Timer) → List Alarm → Option ℕ
earliest f [] = None
earliest f (a ∷ more) = earlier (f a).expiry (earliest f more)

-- the earliest expiry of a timer that runs, a SACK that waits counted
abbrev pub next_moment : EndView → Option ℕ
next_moment e = earlier (earliest e.timers all_alarms) e.delayed
