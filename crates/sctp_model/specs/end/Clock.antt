-- The timers of an endpoint: when they start, stop and expire (RFC 9260, 6.3, 5.1 and 9.2; RFC 3758, 3.5).
use Rattle.std.specs.Prelude.{ℕ, suc, ◌+◌, ◌-◌, ◌*◌, min, max, ◌==◌, nat_lt, nat_le, Bool, true, false, ◌&&◌, if◌then◌else◌, Option, None, Some, option_map}
use Rattle.std.specs.Prelude.{not, ◌||◌, is_some}
use Rattle.sctp_model.specs.numbers.Limits.{LAST_MOMENT, LONGEST_WAIT}
use Rattle.sctp_model.specs.sender.SenderView.{SenderView}
use Rattle.sctp_model.specs.sender.Words.{when}
use Rattle.sctp_model.specs.sender.Entries.{in_flight}
use Rattle.sctp_model.specs.sender.Readers.{point, unsettled}
use Rattle.sctp_model.specs.end.Trips.{RtoBounds}
use Rattle.sctp_model.specs.end.Pacing.{Pace, pace_begun, wait_begun, heard, wait_heard}
use Rattle.sctp_model.specs.end.EndView.{Established, ShutdownSent, ShutdownAckSent, Phase, Calling, Echoing, Open, Over, Ended, Due, nothing_due, Alarm}
use Rattle.sctp_model.specs.end.EndView.{InitAlarm, CookieAlarm, DataAlarm, ShutdownAlarm, AckAlarm, ResetAlarm, Timer, EndView, waits_of}
use Rattle.sctp_model.specs.end.EndView.{ShutdownPending, ShutdownReceived, BeatAlarm, GuardAlarm}

-- ---- one timer

-- the time this long after now, or the last one that there is
abbrev pub after_wait : ℕ → ℕ → ℕ
after_wait now wait = min (now + wait) LAST_MOMENT

-- the timer, once its packet is built at this time (RFC 9260, 6.3.2); while it runs another packet doesn't move its expiry
abbrev pub running : ℕ → Timer → Option ℕ → Timer
running now t (Some m) = t
running now t None = record t { expiry = Some (after_wait now t.wait) }

-- the timer at rest (RFC 9260, 6.3.2): how long it waits and what it counted stay
abbrev pub stopped : Timer → Timer
stopped t = record t { expiry = None }

-- the timer once it has expired: it counts one more, rests, and will wait twice as long, up to the longest wait (RFC 9260, 6.3.3)
abbrev pub expired_timer : (longest : ℕ) → Timer → Timer
expired_timer longest t = record { wait = min (2 * t.wait) longest; repeats = suc t.repeats; expiry = None }

-- an expiry that is set is reached by now
abbrev pub is_over_at : ℕ → Option ℕ → Bool
is_over_at now (Some m) = nat_le m now
is_over_at now None = false

-- The peer didn't answer the last HEARTBEAT, and nothing else is to be acknowledged, for which the data timer would count instead (RFC 9260, 8.3).
abbrev pub is_beat_lost : EndView → Bool
is_beat_lost e = is_some e.beats.sent && not (unsettled e.sender)

-- At an expiry of this timer the endpoint goes on: its packet wasn't repeated as often as may be (RFC 9260, 6.3.3, 5.1 and 9.2). Unanswered HEARTBEATs and
-- expiries of the data timer have one count (8.1). The timer of closing expires once.
abbrev pub may_go_on : Alarm → EndView → Bool
may_go_on InitAlarm e = nat_lt (e.timers InitAlarm).repeats e.configuration.opening_repeats
may_go_on CookieAlarm e = nat_lt (e.timers CookieAlarm).repeats e.configuration.opening_repeats
may_go_on DataAlarm e = nat_lt (e.timers DataAlarm).repeats e.configuration.repeats
may_go_on ShutdownAlarm e = nat_lt (e.timers ShutdownAlarm).repeats e.configuration.repeats
may_go_on AckAlarm e = nat_lt (e.timers AckAlarm).repeats e.configuration.repeats
may_go_on ResetAlarm e = nat_lt (e.timers ResetAlarm).repeats e.configuration.repeats
may_go_on BeatAlarm e = not (is_beat_lost e) || nat_lt (e.timers DataAlarm).repeats e.configuration.repeats
may_go_on GuardAlarm e = false

-- ---- the timers of an endpoint

-- each timer by a number of its own, in the order in which they expire at one time
abbrev pub alarm_number : Alarm → ℕ
alarm_number InitAlarm = 0
alarm_number CookieAlarm = 1
alarm_number DataAlarm = 2
alarm_number ShutdownAlarm = 3
alarm_number AckAlarm = 4
alarm_number ResetAlarm = 5
alarm_number BeatAlarm = 6
alarm_number GuardAlarm = 7

-- another timer in this one's place
abbrev pub replaced : Alarm → Timer → (Alarm → Timer) → Alarm → Timer
replaced a t f = λ b. if alarm_number b == alarm_number a then t else f b

-- the endpoint, with another timer in this one's place
abbrev pub with_timer : Alarm → Timer → EndView → EndView
with_timer a t e = record e { timers = replaced a t e.timers }

-- the endpoint, with this timer running from its time on
abbrev pub started : Alarm → EndView → EndView
started a e = with_timer a (running e.moment (e.timers a) (e.timers a).expiry) e

-- the endpoint, given a time: time doesn't run backwards, so one before its own counts as its own
abbrev pub at_moment : EndView → ℕ → EndView
at_moment e now = record e { moment = max e.moment now }

-- ---- in which states a timer runs

-- the state whose packet this timer repeats: nowhere else does it run
abbrev pub is_home : Alarm → Phase → Bool
is_home InitAlarm (Calling d) = true
is_home CookieAlarm (Echoing t xs) = true
is_home DataAlarm (Open t g) = true
is_home ShutdownAlarm (Open t ShutdownSent) = true
is_home AckAlarm (Open t ShutdownAckSent) = true
is_home ResetAlarm (Open t Established) = true
is_home BeatAlarm (Open t Established) = true
is_home BeatAlarm (Open t ShutdownPending) = true
is_home BeatAlarm (Open t ShutdownReceived) = true
is_home GuardAlarm (Open t ShutdownSent) = true
is_home GuardAlarm (Open t ShutdownAckSent) = true
is_home a h = false

-- What was due once the endpoint has gone to this state: the packets that belong to one state alone are forgotten elsewhere, all others stay.
abbrev pub due_in : Phase → Due → Due
due_in h d = record d {
  init = d.init && is_home InitAlarm h;
  cookie_echo = d.cookie_echo && is_home CookieAlarm h;
  beat = d.beat && is_home BeatAlarm h;
  request = d.request && is_home ResetAlarm h;
  shutdown = d.shutdown && is_home ShutdownAlarm h;
  shutdown_ack = d.shutdown_ack && is_home AckAlarm h;
}

-- The timers once the endpoint has gone to this state: each that isn't at home there rests.
abbrev pub timers_in : Phase → (Alarm → Timer) → Alarm → Timer
timers_in h f = λ a. if is_home a h then f a else stopped (f a)

-- The endpoint goes to this state (RFC 9260, 4).
abbrev pub turned : Phase → EndView → EndView
turned h e = record e { phase = h; due = due_in h e.due; timers = timers_in h e.timers }

-- The endpoint is closed for good, for this reason (RFC 9260, 9). It sends nothing and waits for nothing; what its user may still take or ask about stays.
abbrev pub closed : Ended → EndView → EndView
closed why e = record (turned (Over why) e) { due = nothing_due; delayed = None }

-- ---- the data timer

-- the point lies past CUM, so there is something to skip (RFC 3758, 3.5)
abbrev pub is_point_past : SenderView → Bool
is_point_past v = nat_lt v.cum (point v)

-- The data timer stops if nothing is unsettled (RFC 9260, 6.3.2), and a FORWARD is due no more if the point is CUM (RFC 3758, 3.5).
abbrev pub settled : EndView → EndView
settled e = record (with_timer DataAlarm (if unsettled e.sender then e.timers DataAlarm else stopped (e.timers DataAlarm)) e) {
  due = record e.due { forward = e.due.forward && is_point_past e.sender };
}

-- a timer that runs expires a first wait after this time; one that doesn't still rests
abbrev pub renewed_expiry : (first now : ℕ) → Option ℕ → Option ℕ
renewed_expiry first now None = None
renewed_expiry first now (Some m) = Some (after_wait now first)

-- The data timer after a SACK that was taken: its count of repeats is 0; if the SACK moved CUM, its wait is the first one again, and it begins anew if it
-- still runs (RFC 9260, 6.3.2).
abbrev pub renewed : (first now : ℕ) → Bool → Timer → Timer
renewed first now false t = record t { repeats = 0 }
renewed first now true t = record { wait = first; repeats = 0; expiry = renewed_expiry first now t.expiry }

-- ---- the timer of a request that is in progress

-- a timer that runs expires one wait after this time; one that rests still rests
abbrev pub restarted_expiry : (now wait : ℕ) → Option ℕ → Option ℕ
restarted_expiry now wait None = None
restarted_expiry now wait (Some m) = Some (after_wait now wait)

-- The timer, started again with this wait if it runs (RFC 6525, 5.2.7): its count of repeats is 0, since a peer that answers isn't given up.
abbrev pub restarted : (now wait : ℕ) → Timer → Timer
restarted now wait t = record { wait = wait; repeats = 0; expiry = restarted_expiry now wait t.expiry }

-- ---- the data timer after an acknowledgement

-- The data timer's expiry after an acknowledgement, with this RTO: a running timer is restarted if that is asked for (`anew`), one that doesn't run is
-- started if data is in flight (RFC 9260, 6.3.2, R3 and R4, and 7.2.4, step 4).
abbrev pub paced_expiry : (now wait : ℕ) → (anew flies : Bool) → Option ℕ → Option ℕ
paced_expiry now wait anew flies None = when flies (after_wait now wait)
paced_expiry now wait anew flies (Some m) = Some (if anew then after_wait now wait else m)

-- That timer; `wait` is the RTO before the acknowledgement. Without a pace it stays as it is, but one that rests starts if data is in flight: what a SACK had
-- acknowledged and this one doesn't (6.3.2, R4).
abbrev pub timer_heard : Option Pace → (now : ℕ) → RtoBounds → (wait : ℕ) → (v u : SenderView) → Timer → Timer
timer_heard None now least wait v u t = record t { expiry = paced_expiry now t.wait false (nat_lt 0 (in_flight u)) t.expiry }
timer_heard (Some p) now least wait v u t =
    let h = heard now v u p in
    let w = wait_heard least wait h in
    record t { wait = w; expiry = paced_expiry now w h.anew (nat_lt 0 (in_flight h.sender)) t.expiry }

-- the sender after it: an endpoint with a pace has marked what was missed for retransmission
abbrev pub sender_heard : Option Pace → (now : ℕ) → (v u : SenderView) → SenderView
sender_heard None now v u = u
sender_heard (Some p) now v u = (heard now v u p).sender

-- The endpoint after an acknowledgement that its sender has taken: `v` is the sender before it, `wait` the RTO before it, `t` the data timer without a pace.
abbrev pub paced : (v : SenderView) → (wait : ℕ) → Timer → EndView → EndView
paced v wait t e = record (with_timer DataAlarm (timer_heard e.pace e.moment (waits_of e.configuration) wait v e.sender t) e) {
  sender = sender_heard e.pace e.moment v e.sender;
  pace = option_map (λ p. (heard e.moment v e.sender p).pace) e.pace;
}

-- ---- the round trip of the handshake

-- The round trip of a COOKIE ECHO that was sent once, by the time at which its timer was started; none if it was retransmitted (RFC 9260, 6.3.1, C5).
abbrev pub echo_trip : (first now : ℕ) → Timer → Option ℕ
echo_trip first now t = if t.repeats == 0 then option_map (λ m. min (now - (m - first)) LONGEST_WAIT) t.expiry else None

-- the data timer of a new association with this pace
abbrev pub timer_begun : Option Pace → RtoBounds → (wait : ℕ) → Timer → Timer
timer_begun None least wait t = t
timer_begun (Some p) least wait t = record t { wait = wait_begun least wait p }

-- An endpoint whose association begins: the round trip of the handshake is its first measurement; without one the data timer has the handshake's RTO. One
-- without a pace stays as it is.
abbrev pub measured : (trip : Option ℕ) → (wait : ℕ) → EndView → EndView
measured trip wait e =
    let p = option_map (pace_begun trip) e.pace in
    record (with_timer DataAlarm (timer_begun p (waits_of e.configuration) wait (e.timers DataAlarm)) e) { pace = p }
