-- The end of a packet and the beginning of an association, at an endpoint with a pace and at one without.
use Rattle.std.proofs.Common.{◌≡◌, ℕ, ◌&&◌, nat_lt, Bool, true, false, Option, None, Some, refl, sym, subst, ap, arith, ◌∙◌, if◌then◌else◌, List}
use Rattle.std.specs.Prelude.{nat_le, option_map}
use Rattle.std.proofs.lemmas.Bool.{and_parts, le-ltb}
use Rattle.sctp_model.specs.messages.Framing.{header_of}
use Rattle.sctp_model.specs.sender.Abandoning.{worn}
use Rattle.sctp_model.specs.end.Sealing.{Body}
use Rattle.sctp_model.specs.end.Pacing.{Pace, pace_begun}
use Rattle.sctp_model.specs.wire.Packet.{Packet}
use Rattle.sctp_model.specs.end.EndView.{Draw, Tags, Established, Open, Alarm, InitAlarm, CookieAlarm, DataAlarm, ShutdownAlarm, AckAlarm, ResetAlarm, Timer, EndView, has_association}
use Rattle.sctp_model.specs.end.EndView.{BeatAlarm, GuardAlarm, waits_of, format_for}
use Rattle.sctp_model.specs.end.Clock.{turned, replaced, with_timer, timer_begun, measured}
use Rattle.sctp_model.specs.end.Beating.{beat_timer, beating, beat_trip, beat_answered, beat_heard}
use Rattle.sctp_model.specs.end.Closing.{with_due, hears}
use Rattle.sctp_model.specs.end.Moments.{after_abandoning}
use Rattle.sctp_model.specs.end.Opening.{pace_for, joined, terms_of_body, tags_of_body, cookie_trip, begun, acknowledged_echo}
use Rattle.sctp_model.specs.end.Passing.{has_ports, passes}
use Rattle.sctp_model.specs.end.Strays.{Verdict}
use Rattle.sctp_model.specs.end.Arriving.{Notes, no_notes, AllAct, LeavesGap, urged, packet_ended, Arrives, Heard}
use Rattle.sctp_model.specs.world.World.{Side, World, log_of, order_heard, logged_packet}
use Rattle.sctp_model.specs.end.Wearing.{missed_below, worn_since, wearing}
use Rattle.sctp_model.specs.end.Misses.{is_missed}

-- ---- the end of a packet

-- The endpoint stays, or it is open, and gives up what was missed and may not be retransmitted again.
pub worn_cases : (P : EndView → Type 0) (from : ℕ) (e : EndView) → P e →
    ((test : ℕ → Bool) → hears (λ g. true) e.phase ≡ true → P (after_abandoning e (worn test e.sender))) → P (wearing from e)
worn_cases P from e same gives = by e.pace
  where
    go : (p : Pace) (b : Bool) → (nat_lt from p.misses.third && hears (λ g. true) e.phase) ≡ b →
        P (if b then after_abandoning e (worn (is_missed p.misses) e.sender) else e)
    go p true is = gives (is_missed p.misses) (and_parts (nat_lt from p.misses.third) (hears (λ g. true) e.phase) is).1
    go p false is = same

    by : (o : Option Pace) → P (worn_since o from e)
    by None = same
    by (Some p) = go p (nat_lt from p.misses.third && hears (λ g. true) e.phase) refl

-- it stays if nothing was missed since
pub nothing_missed : (e : EndView) → wearing (missed_below e.pace) e ≡ e
nothing_missed e = by e.pace
  where
    by : (o : Option Pace) → worn_since o (missed_below o) e ≡ e
    by None = refl
    by (Some p) =
        let n = p.misses.third in
        ap (λ (b : Bool). if b && hears (λ g. true) e.phase then after_abandoning e (worn (is_missed p.misses) e.sender) else e) (le-ltb n n (omega arith))

-- without a pace it stays
pub unworn : (from : ℕ) (e : EndView) → e.pace ≡ None → wearing from e ≡ e
unworn from e none = ap (λ (o : Option Pace). worn_since o from e) none

-- so a packet ends there as its chunks leave it
pub heard_unpaced : (e : EndView) (d : Draw) (p : Packet) (t : EndView) (n : Notes) (v : Verdict) → has_ports e.configuration p ≡ true → passes e.phase p ≡ true → has_association e.phase ≡ true →
    AllAct p.tag e no_notes p.chunks t n v → (gap : Bool) → LeavesGap t gap → t.pace ≡ None → Arrives e d p (packet_ended (urged gap n) t) v
heard_unpaced e d p t n v ports may has acts gap left none =
    subst (λ (x : EndView). Arrives e d p (packet_ended (urged gap n) x) v) (unworn (missed_below e.pace) t none) (Heard t n v ports may has acts gap left)

-- and no log changes
pub unlogged : (w : World) (s : Side) (t : EndView) → t.pace ≡ None → logged_packet w s t ≡ log_of w s
unlogged w s t none = ap (λ (o : Option Pace). record (log_of w s) { order = order_heard o w s t }) none

-- ---- the beginning of an association

-- a timer that is put where it was
pub put_back : (f : Alarm → Timer) → replaced DataAlarm (f DataAlarm) f ≡ f
put_back f = λ i a. at a i
  where
    at : (a : Alarm) → replaced DataAlarm (f DataAlarm) f a ≡ f a
    at InitAlarm = refl
    at CookieAlarm = refl
    at DataAlarm = refl
    at ShutdownAlarm = refl
    at AckAlarm = refl
    at ResetAlarm = refl
    at BeatAlarm = refl
    at GuardAlarm = refl

-- without a pace no round trip is noted
pub unmeasured : (trip : Option ℕ) (wait : ℕ) (e : EndView) → e.pace ≡ None → measured trip wait e ≡ e
unmeasured trip wait e none =
    (λ i. record (with_timer DataAlarm (timer_begun (option_map (pace_begun trip) (none i)) (waits_of e.configuration) wait (e.timers DataAlarm)) e) {
      pace = option_map (pace_begun trip) (none i);
    })
    ∙ (λ i. record e { timers = put_back e.timers i; pace = sym none i })

-- the timer of HEARTBEATs, put where it was
pub put_beat_back : (f : Alarm → Timer) → replaced BeatAlarm (f BeatAlarm) f ≡ f
put_beat_back f = λ i a. at a i
  where
    at : (a : Alarm) → replaced BeatAlarm (f BeatAlarm) f a ≡ f a
    at InitAlarm = refl
    at CookieAlarm = refl
    at DataAlarm = refl
    at ShutdownAlarm = refl
    at AckAlarm = refl
    at ResetAlarm = refl
    at BeatAlarm = refl
    at GuardAlarm = refl

-- an endpoint that sends no HEARTBEATs starts no timer for them
pub unbeating : (e : EndView) → e.configuration.heartbeat ≡ None → beating e ≡ e
unbeating e none = ap (λ (o : Option ℕ). with_timer BeatAlarm (beat_timer o e) e) none ∙ (λ i. record e { timers = put_beat_back e.timers i })

-- a HEARTBEAT ACK that answers nothing changes nothing
pub unanswered : (e : EndView) (info : List ℕ) → beat_trip e info ≡ None → beat_heard e info ≡ e
unanswered e info none = ap (λ (o : Option ℕ). beat_answered o e) none ∙ (λ i. record e { timers = put_back e.timers i; pace = same e.pace i })
  where
    same : (o : Option Pace) → option_map (pace_begun None) o ≡ o
    same None = refl
    same (Some p) = refl

-- so a COOKIE ACK opens the caller's association, and changes nothing else
pub acknowledged_unpaced : (t : Tags) (e : EndView) → e.pace ≡ None → acknowledged_echo t e ≡ beating (turned (Open t Established) e)
acknowledged_unpaced t e none = ap beating (unmeasured _ _ (turned (Open t Established) e) none)

-- and a cookie the listener's
pub begun_unpaced : (b : Body) (e : EndView) → pace_for e.configuration (header_of (format_for (terms_of_body b).interleave)) b.rwnd ≡ None → let t = turned (Open (tags_of_body b) Established) (joined (terms_of_body b) b.rwnd e) in
    begun b e ≡ with_due (record (beating t).due { cookie_ack = true }) (beating t)
begun_unpaced b e none =
    let t = turned (Open (tags_of_body b) Established) (joined (terms_of_body b) b.rwnd e) in
    ap (λ (x : EndView). with_due (record (beating x).due { cookie_ack = true }) (beating x)) (unmeasured (Some (cookie_trip e.moment b)) e.configuration.first_wait t none)
