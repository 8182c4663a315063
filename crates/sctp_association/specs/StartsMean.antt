-- Which timers of an end start, and what that makes of them (RFC 9260, 6.3.2).
use Rattle.std.specs.Prelude.{ℕ, Bool, true, false, ◌==◌, if◌then◌else◌}
use Rattle.sctp_model.specs.end.EndView as model
use Rattle.sctp_model.specs.end.Clock.{running, alarm_number}
use Rattle.sctp_association.specs.declared.time.starts.Starts.{Starts}

-- whether this timer starts; those of HEARTBEATs and of closing as a whole don't
abbrev pub starts_at : Starts → model.Alarm → Bool
starts_at s model.InitAlarm = s.init
starts_at s model.CookieAlarm = s.cookie
starts_at s model.DataAlarm = s.fragments
starts_at s model.ShutdownAlarm = s.shutdown
starts_at s model.AckAlarm = s.shutdown_ack
starts_at s model.ResetAlarm = s.reset
starts_at s model.BeatAlarm = false
starts_at s model.GuardAlarm = false

-- this timer starts too
abbrev pub with_start : model.Alarm → (model.Alarm → Bool) → model.Alarm → Bool
with_start a p = λ b. if alarm_number b == alarm_number a then true else p b

-- the timer of fragments starts too, if something went out
abbrev pub with_fragments : (went_out : Bool) → (model.Alarm → Bool) → model.Alarm → Bool
with_fragments true p = with_start model.DataAlarm p
with_fragments false p = p

-- a timer that starts at this moment, unless it runs; or one that doesn't start
abbrev pub started_if : (starts : Bool) → (now : ℕ) → model.Timer → model.Timer
started_if true now t = running now t t.expiry
started_if false now t = t

-- all timers, once those that start have started at this moment
abbrev pub started_from : (model.Alarm → Bool) → (now : ℕ) → (model.Alarm → model.Timer) → model.Alarm → model.Timer
started_from p now f = λ a. started_if (p a) now (f a)
