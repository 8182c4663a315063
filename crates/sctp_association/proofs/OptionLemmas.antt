-- What the definitions come to where each option of timers, HEARTBEATs, memory and checksums is plain.
use Rattle.std.proofs.Common.{◌≡◌, ◌∙◌, ℕ, ◌-◌, nat_lt, Bool, true, false, ◌&&◌, ◌||◌, List, Option, None, refl, ap, sym, arith}
use Rattle.std.specs.Prelude.{if◌then◌else◌, length, ◌==◌}
use Rattle.sctp_model.specs.numbers.Limits.{FIRST_WAIT, BLOCK_LIMIT}
use Rattle.sctp_model.specs.wire.Chunk.{PieceMeaning, SackMeaning}
use Rattle.sctp_model.specs.receiver.PieceTaken.{is_misnumbered}
use Rattle.sctp_model.specs.sender.Filling.{Wish}
use Rattle.sctp_model.specs.end.EndView.{EndView, Configuration, first_offer, Beats, no_beats, Alarm, InitAlarm, CookieAlarm, DataAlarm, ShutdownAlarm, AckAlarm, ResetAlarm, BeatAlarm, GuardAlarm, Timer, unused_timer, send_limits, waits_of, format_of}
use Rattle.sctp_model.specs.end.Clock.{replaced, with_timer, may_go_on, paced}
use Rattle.sctp_model.specs.end.Closing.{hears}
use Rattle.sctp_model.specs.end.Acting.{is_refused, is_in_vain, timer_acked, sack_heard}
use Rattle.sctp_model.specs.end.Beating.{beat_timer, beating_after, guard_timer, guarded, is_beat_said, beat_trip, beat_heard}
use Rattle.sctp_model.specs.end.Building.{most_blocks}
use Rattle.sctp_model.specs.end.UserCalls.{is_update, updating}
use Rattle.sctp_model.proofs.PacedEnds.{put_beat_back, unanswered}
use Rattle.sctp_terms.specs.PlainOptions.{HasPlainOptions}
use Rattle.sctp_congestion.specs.Waits.{plain_waits}
use Rattle.sctp_send.specs.SenderStands.{plain_limits}
use Rattle.sctp_association.specs.TimersMean.{alarm_meaning, most_repeats}
use Rattle.sctp_association.specs.Acknowledges.{rests_after, timer_after}
use Rattle.sctp_association.specs.declared.time.timer.Alarm as code
use Rattle.sctp_association.specs.declared.time.timer.Alarm.TheVariants.{Init, Cookie, Fragments, Shutdown, ShutdownAck, Reset}

-- ---- timers

-- none ran yet
pub unused_are : (c : Configuration) → HasPlainOptions c → (f : Alarm → Timer) → f ≡ (λ a. unused_timer FIRST_WAIT) → f ≡ (λ a. unused_timer c.first_wait)
unused_are c o f is = is ∙ (λ i a. unused_timer (sym o.first_wait i))

-- one that has waited may go on as often as is usual
pub goes_on : (a : code.Alarm) (v : EndView) → HasPlainOptions v.configuration → may_go_on (alarm_meaning a) v ≡ nat_lt (v.timers (alarm_meaning a)).repeats (most_repeats a)
goes_on Init v o = ap (nat_lt (v.timers InitAlarm).repeats) o.opening_repeats
goes_on Cookie v o = ap (nat_lt (v.timers CookieAlarm).repeats) o.opening_repeats
goes_on Fragments v o = ap (nat_lt (v.timers DataAlarm).repeats) o.repeats
goes_on Shutdown v o = ap (nat_lt (v.timers ShutdownAlarm).repeats) o.repeats
goes_on ShutdownAck v o = ap (nat_lt (v.timers AckAlarm).repeats) o.repeats
goes_on Reset v o = ap (nat_lt (v.timers ResetAlarm).repeats) o.repeats

-- the bounds of its RTO
pub waits_are : (c : Configuration) → HasPlainOptions c → waits_of c ≡ plain_waits c.least_wait
waits_are c o = λ i. record { first = o.first_wait i; least = c.least_wait; longest = o.longest_wait i }

-- ---- HEARTBEATs

either : {A : Type 0} (b : Bool) (x : A) → (if b then x else x) ≡ x
either true x = refl
either false x = refl

-- a packet starts no timer for them
pub unbeating_after : (ws : List Wish) (v : EndView) → HasPlainOptions v.configuration → beating_after ws v ≡ v
unbeating_after ws v o =
    ap (λ (x : Option ℕ). with_timer BeatAlarm (if 0 == length ws then v.timers BeatAlarm else beat_timer x v) v) o.heartbeat
    ∙ ap (λ (t : Timer). with_timer BeatAlarm t v) (either (0 == length ws) (v.timers BeatAlarm)) ∙ (λ i. record v { timers = put_beat_back v.timers i })

-- a HEARTBEAT ACK answers none
pub unheard : (v : EndView) (info : List ℕ) → v.beats ≡ no_beats → beat_heard v info ≡ v
unheard v info none = unanswered v info (ap (λ (b : Beats). beat_trip (record v { beats = b }) info) none ∙ either (hears (λ g. true) v.phase && is_beat_said (record v { beats = no_beats }) info) None)

-- ---- closing

put_guard_back : (f : Alarm → Timer) → replaced GuardAlarm (f GuardAlarm) f ≡ f
put_guard_back f = λ i a. at a i
  where
    at : (a : Alarm) → replaced GuardAlarm (f GuardAlarm) f a ≡ f a
    at InitAlarm = refl
    at CookieAlarm = refl
    at DataAlarm = refl
    at ShutdownAlarm = refl
    at AckAlarm = refl
    at ResetAlarm = refl
    at BeatAlarm = refl
    at GuardAlarm = refl

-- a SHUTDOWN starts no timer of closing as a whole
pub unguarded : (v : EndView) → HasPlainOptions v.configuration → guarded v ≡ v
unguarded v o =
    ap (λ (b : Bool). with_timer GuardAlarm (guard_timer b v.configuration.longest_wait v.moment (v.timers GuardAlarm)) v) o.guard ∙ (λ i. record v { timers = put_guard_back v.timers i })

-- ---- acknowledgements

-- a SACK is never in vain
pub counts_always : (v : EndView) (x : SackMeaning) → HasPlainOptions v.configuration → sack_heard v x ≡ paced v.sender (v.timers DataAlarm).wait (timer_after v x) (rests_after v x)
counts_always v x o = ap (λ (b : Bool). paced v.sender (v.timers DataAlarm).wait (timer_acked b (timer_after v x) (v.timers DataAlarm).repeats) (rests_after v x)) (in_vain v x o)
  where
    in_vain : (e : EndView) (s : SackMeaning) → HasPlainOptions e.configuration → is_in_vain e s ≡ false
    in_vain e s p = rw p.progress refl

-- it has so many gap blocks at most
pub few_blocks : (c : Configuration) → HasPlainOptions c → most_blocks c ≡ BLOCK_LIMIT
few_blocks c o = rw o.all_blocks refl

-- ---- user data

-- no chunk ends the association by its numbers
pub unrefused : (v : EndView) (c : ℕ) (p : PieceMeaning) → HasPlainOptions v.configuration → is_refused v c p ≡ false
unrefused v c p o = ap (λ (b : Bool). b && is_misnumbered (format_of v) v.receiver c p) o.strict

-- a message that is taken makes no SACK due
pub unupdating : (v : EndView) → HasPlainOptions v.configuration → updating v ≡ v
unupdating v o = ap (λ (b : Bool). record v { due = record v.due { sack = b } }) (ap (λ (b : Bool). v.due.sack || b) (none v o) ∙ or_none v.due.sack)
  where
    none : (e : EndView) → HasPlainOptions e.configuration → is_update e ≡ false
    none e p = rw p.updates refl

    or_none : (b : Bool) → (b || false) ≡ b
    or_none true = refl
    or_none false = refl

-- the limits of its sender
pub limits_are : (c : Configuration) → HasPlainOptions c → send_limits c ≡ plain_limits
limits_are c o = λ i. record { message = o.longest_message i; queue = o.queue_bytes i }

-- ---- its first window

-- all of its buffer
pub offers_all : (c : Configuration) → HasPlainOptions c → first_offer c ≡ c.buffer
offers_all c o = ap (λ (n : ℕ). c.buffer - n) o.reserve ∙ all c.buffer
  where
    all : (n : ℕ) → n - 0 ≡ n
    all n = omega arith
