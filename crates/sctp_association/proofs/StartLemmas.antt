-- Timers that a packet starts: one more may be noted in any order, and one that runs already keeps its expiry.
use Rattle.std.proofs.Common.{◌≡◌, ◌∙◌, ℕ, zero, suc, Bool, true, false, ◌==◌, if◌then◌else◌, Option, Some, None, refl, ap, sym, arith}
use Rattle.std.proofs.lemmas.Bool.Decides.{nat_tests}
use Rattle.sctp_model.specs.end.EndView.{Alarm, InitAlarm, CookieAlarm, DataAlarm, ShutdownAlarm, AckAlarm, ResetAlarm, BeatAlarm, GuardAlarm, Timer}
use Rattle.sctp_model.specs.end.Clock.{running, replaced, alarm_number}
use Rattle.sctp_association.specs.StartsMean.{with_start, started_if, started_from}

-- ---- which timer a number tells

abbrev alarm_of : ℕ → Alarm
alarm_of zero = InitAlarm
alarm_of (suc zero) = CookieAlarm
alarm_of (suc (suc zero)) = DataAlarm
alarm_of (suc (suc (suc zero))) = ShutdownAlarm
alarm_of (suc (suc (suc (suc zero)))) = AckAlarm
alarm_of (suc (suc (suc (suc (suc zero))))) = ResetAlarm
alarm_of (suc (suc (suc (suc (suc (suc zero)))))) = BeatAlarm
alarm_of (suc (suc (suc (suc (suc (suc (suc n))))))) = GuardAlarm

told : (a : Alarm) → alarm_of (alarm_number a) ≡ a
told InitAlarm = refl
told CookieAlarm = refl
told DataAlarm = refl
told ShutdownAlarm = refl
told AckAlarm = refl
told ResetAlarm = refl
told BeatAlarm = refl
told GuardAlarm = refl

same_number : (m n : ℕ) → (m == n) ≡ true → m ≡ n
same_number m n is = grind (arith, nat_tests)

same_alarm : (a b : Alarm) → (alarm_number b == alarm_number a) ≡ true → b ≡ a
same_alarm a b is = sym (told b) ∙ (ap alarm_of (same_number (alarm_number b) (alarm_number a) is) ∙ told a)

-- ---- a timer starts once

once : (now : ℕ) (t : Timer) (expiry : Option ℕ) → t.expiry ≡ expiry → running now (running now t expiry) (running now t expiry).expiry ≡ running now t expiry
once now t None is = refl
once now t (Some m) is = ap (running now t) is

again : (starts : Bool) (now : ℕ) (t : Timer) → running now (started_if starts now t) (started_if starts now t).expiry ≡ running now t t.expiry
again true now t = once now t t.expiry refl
again false now t = refl

-- ---- a timer more

more_at : (a b : Alarm) (p : Alarm → Bool) (now : ℕ) (f : Alarm → Timer) (is : Bool) → (alarm_number b == alarm_number a) ≡ is
    → (if is then running now (started_from p now f a) (started_from p now f a).expiry else started_from p now f b) ≡ started_if (if is then true else p b) now (f b)
more_at a b p now f true is = again (p a) now (f a) ∙ ap (λ (c : Alarm). running now (f c) (f c).expiry) (sym (same_alarm a b is))
more_at a b p now f false is = refl

-- the timers where one starts behind others, and where it is among them
pub start_more : (a : Alarm) (p : Alarm → Bool) (now : ℕ) (f : Alarm → Timer)
    → replaced a (running now (started_from p now f a) (started_from p now f a).expiry) (started_from p now f) ≡ started_from (with_start a p) now f
start_more a p now f =
    let each : (b : Alarm) → replaced a (running now (started_from p now f a) (started_from p now f a).expiry) (started_from p now f) b ≡ started_from (with_start a p) now f b =
    λ b. more_at a b p now f (alarm_number b == alarm_number a) refl in λ i b. each b i
