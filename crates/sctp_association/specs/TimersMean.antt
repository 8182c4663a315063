-- What the timers of an end mean (RFC 9260, 6.3).
use Rattle.std.specs.Prelude.{ℕ, Bool, if◌then◌else◌}
use Rattle.sctp_model.specs.numbers.Limits.{FIRST_WAIT, OPENING_REPEATS, REPEATS}
use Rattle.sctp_model.specs.end.EndView as model
use Rattle.sctp_model.specs.end.Clock.{stopped}
use Rattle.sctp_association.specs.declared.time.timer.Alarm.{Alarm}
use Rattle.sctp_association.specs.declared.time.timer.Alarm.TheVariants.{Init, Cookie, Fragments, Shutdown, ShutdownAck, Reset}
use Rattle.sctp_association.specs.declared.time.timer.Timer.{Timer}
use Rattle.sctp_association.specs.declared.time.timers.Timers.{Timers}

-- which timer
abbrev pub alarm_meaning : Alarm → model.Alarm
alarm_meaning Init = model.InitAlarm
alarm_meaning Cookie = model.CookieAlarm
alarm_meaning Fragments = model.DataAlarm
alarm_meaning Shutdown = model.ShutdownAlarm
alarm_meaning ShutdownAck = model.AckAlarm
alarm_meaning Reset = model.ResetAlarm

-- one timer
abbrev pub timer_meaning : Timer → model.Timer
timer_meaning t = record { wait = t.wait; repeats = t.repeats; expiry = t.expiry }

-- All, as a function of which: those of HEARTBEATs and of closing as a whole never run.
abbrev pub timers_meaning : Timers → model.Alarm → model.Timer
timers_meaning t model.InitAlarm = timer_meaning t.init
timers_meaning t model.CookieAlarm = timer_meaning t.cookie
timers_meaning t model.DataAlarm = timer_meaning t.fragments
timers_meaning t model.ShutdownAlarm = timer_meaning t.shutdown
timers_meaning t model.AckAlarm = timer_meaning t.shutdown_ack
timers_meaning t model.ResetAlarm = timer_meaning t.reset
timers_meaning t model.BeatAlarm = model.unused_timer FIRST_WAIT
timers_meaning t model.GuardAlarm = model.unused_timer FIRST_WAIT

-- how often the packet of a timer is repeated before the end gives up (Max.Init.Retransmits and Association.Max.Retrans of RFC 9260, 16)
abbrev pub most_repeats : Alarm → ℕ
most_repeats Init = OPENING_REPEATS
most_repeats Cookie = OPENING_REPEATS
most_repeats Fragments = REPEATS
most_repeats Shutdown = REPEATS
most_repeats ShutdownAck = REPEATS
most_repeats Reset = REPEATS

-- a timer that is wanted goes on, another rests (6.3.2)
abbrev pub kept_if : Bool → model.Timer → model.Timer
kept_if wanted t = if wanted then t else stopped t

-- the timers of an open association, by whether SHUTDOWN, SHUTDOWN ACK and a request to reset streams may be retransmitted in its state (9.2; RFC 6525, 5.1.1)
abbrev pub open_timers : (shutdown ack request : Bool) → (model.Alarm → model.Timer) → model.Alarm → model.Timer
open_timers shutdown ack request f model.InitAlarm = stopped (f model.InitAlarm)
open_timers shutdown ack request f model.CookieAlarm = stopped (f model.CookieAlarm)
open_timers shutdown ack request f model.DataAlarm = f model.DataAlarm
open_timers shutdown ack request f model.ShutdownAlarm = kept_if shutdown (f model.ShutdownAlarm)
open_timers shutdown ack request f model.AckAlarm = kept_if ack (f model.AckAlarm)
open_timers shutdown ack request f model.ResetAlarm = kept_if request (f model.ResetAlarm)
open_timers shutdown ack request f model.BeatAlarm = stopped (f model.BeatAlarm)
open_timers shutdown ack request f model.GuardAlarm = stopped (f model.GuardAlarm)

-- all at rest
abbrev pub resting : (model.Alarm → model.Timer) → model.Alarm → model.Timer
resting f a = stopped (f a)
