-- `on_moment`: a timer that expires, repeats or gives up, and messages that are abandoned, are the specification's steps of time.
use Rattle.std.proofs.Common.{◌≡◌, ◌∙◌, ℕ, nat_lt, Bool, true, false, ap, sym, subst}
use Rattle.std.specs.Prelude.{if◌then◌else◌, ◌&&◌, ◌||◌, Option, None}
use Rattle.sctp_model.specs.numbers.Limits.{LONGEST_WAIT}
use Rattle.sctp_model.specs.end.EndView.{TimedOut, Alarm, DataAlarm, BeatAlarm, GuardAlarm, Timer, EndView}
use Rattle.sctp_model.specs.end.EndView as model
use Rattle.sctp_model.specs.end.Clock.{expired_timer, is_over_at, replaced, with_timer, closed}
use Rattle.sctp_model.specs.end.Moments.{due_again, ring, rung, is_data_due, given_up}
use Rattle.sctp_terms.specs.PlainOptions.{HasPlainOptions}
use Rattle.sctp_association.specs.TimersMean.{alarm_meaning, most_repeats, kept_if}
use Rattle.sctp_association.specs.declared.time.timer.Alarm as code
use Rattle.sctp_association.specs.DueStands.{DueStands}
use Rattle.sctp_association.specs.MachineStands.{KeepsMachine}
use Rattle.sctp_association.specs.declared.state.due.Due.{Due}
use Rattle.sctp_association.specs.declared.machine.Machine.{Machine}
use Rattle.sctp_association.proofs.OptionLemmas.{goes_on}

-- ---- a timer; the moment and the timer are those of the code

over_same : (a : Alarm) (v : EndView) (m : ℕ) (t : Timer) → m ≡ v.moment → t ≡ v.timers a → is_over_at v.moment (v.timers a).expiry ≡ is_over_at m t.expiry
over_same a v m t clock at = sym (ap (λ (n : ℕ). is_over_at n t.expiry) clock ∙ ap (λ (x : Timer). is_over_at v.moment x.expiry) at)

pub ring_waits : (a : Alarm) (v : EndView) (m : ℕ) (t : Timer) → m ≡ v.moment → t ≡ v.timers a → is_over_at m t.expiry ≡ false → ring a v ≡ v
ring_waits a v m t clock at is = ap (λ (b : Bool). rung b a v) (over_same a v m t clock at ∙ is)

pub ring_goes : (a : code.Alarm) (v : EndView) (m : ℕ) (t : Timer) (b : Bool) → HasPlainOptions v.configuration → m ≡ v.moment → t ≡ v.timers (alarm_meaning a)
    → is_over_at m t.expiry ≡ true → nat_lt t.repeats (most_repeats a) ≡ b
    → ring (alarm_meaning a) v
    ≡ (if b then due_again (alarm_meaning a) (with_timer (alarm_meaning a) (expired_timer v.configuration.longest_wait (v.timers (alarm_meaning a))) v) else closed TimedOut v)
ring_goes a v m t b options clock at is more =
    let x = alarm_meaning a in
    ap (λ (c : Bool). rung c x v) (over_same x v m t clock at ∙ is)
    ∙ ap (λ (c : Bool). if c then due_again x (with_timer x (expired_timer v.configuration.longest_wait (v.timers x)) v) else closed TimedOut v)
    (goes_on a v options ∙ (sym (ap (λ (y : Timer). nat_lt y.repeats (most_repeats a)) at) ∙ more))

-- those of HEARTBEATs and of closing as a whole never expire
rings_never : (a : Alarm) (v : EndView) → (v.timers a).expiry ≡ None → ring a v ≡ v
rings_never a v rests = ap (λ (o : Option ℕ). rung (is_over_at v.moment o) a v) rests

pub rings_no_other : (m : Machine) (v : EndView) → KeepsMachine m v → ring GuardAlarm (ring BeatAlarm v) ≡ v
rings_no_other m v k =
    ap (ring GuardAlarm) (rings_never BeatAlarm v (ap (λ (f : Alarm → Timer). (f BeatAlarm).expiry) (sym k.timers)))
    ∙ rings_never GuardAlarm v (ap (λ (f : Alarm → Timer). (f GuardAlarm).expiry) (sym k.timers))

-- ---- what is given up

pub gives_up : (v : EndView) (m : ℕ) (t : Timer) (b : Bool) → m ≡ v.moment → t ≡ v.timers DataAlarm → is_over_at m t.expiry ≡ b
    → given_up (is_data_due v) v.sender v.moment ≡ given_up b v.sender v.moment
gives_up v m t b clock at is = ap (λ (x : Bool). given_up x v.sender v.moment) (over_same DataAlarm v m t clock at ∙ is)

-- ---- timers put in place

pub put_in : (a : Alarm) (n f g : Alarm → Timer) (t x : Timer) (longest : ℕ) → n ≡ replaced a t f → t ≡ expired_timer LONGEST_WAIT x → x ≡ f a → longest ≡ LONGEST_WAIT → f ≡ g
    → n ≡ replaced a (expired_timer longest (g a)) g
put_in a n f g t x longest is made at limit same =
    is ∙ ap (λ (z : Timer). replaced a z f) (made ∙ ap (expired_timer LONGEST_WAIT) at) ∙ ap (λ (h : Alarm → Timer). replaced a (expired_timer LONGEST_WAIT (h a)) h) same
    ∙ ap (λ (n : ℕ). replaced a (expired_timer n (g a)) g) (sym limit)

pub kept_in : (n f g : Alarm → Timer) (b c : Bool) → n ≡ replaced DataAlarm (kept_if b (f DataAlarm)) f → b ≡ c → f ≡ g → n ≡ replaced DataAlarm (kept_if c (g DataAlarm)) g
kept_in n f g b c is wanted same =
    is ∙ ap (λ (x : Bool). replaced DataAlarm (kept_if x (f DataAlarm)) f) wanted ∙ ap (λ (h : Alarm → Timer). replaced DataAlarm (kept_if c (h DataAlarm)) h) same

-- ---- a FORWARD that is due

pub settled_due : (d : Due) (m : model.Due) (b c : Bool) → DueStands d (record m { forward = m.forward && b }) → b ≡ c → DueStands d (record m { forward = m.forward && c })
settled_due d m b c stands same = subst (λ (x : Bool). DueStands d (record m { forward = m.forward && x })) same stands

pub owed_due : (d : Due) (m : model.Due) (b c : Bool) → DueStands d (record m { forward = b }) → b ≡ c → DueStands d (record m { forward = c })
owed_due d m b c stands same = subst (λ (x : Bool). DueStands d (record m { forward = x })) same stands

pub skipped_due : (d : Due) (m : model.Due) (b c : Bool) → DueStands d (record m { forward = m.forward || b }) → b ≡ c → DueStands d (record m { forward = m.forward || c })
skipped_due d m b c stands same = subst (λ (x : Bool). DueStands d (record m { forward = m.forward || x })) same stands
