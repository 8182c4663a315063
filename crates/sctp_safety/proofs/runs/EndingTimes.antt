-- What a time and the calls of a user do to the closing of an association.
use Rattle.std.proofs.Common.{◌≡◌, ℕ, ◌||◌, nat_lt, Bool, true, false, not, ◌==◌, List, [], ◌∷◌, Option, Some, None, refl, sym, subst, if◌then◌else◌}
use Rattle.sctp_model.specs.wire.Chunk.{ChunkMeaning}
use Rattle.sctp_model.specs.sender.SenderView.{SenderView}
use Rattle.sctp_model.specs.receiver.ReceiverView.{Handed}
use Rattle.sctp_model.specs.world.Calls.{Call}
use Rattle.sctp_model.specs.sender.Queueing.{Refusal, refusal, queued}
use Rattle.sctp_model.specs.sender.Abandoning.{abandon_after, worn}
use Rattle.sctp_model.specs.sender.Readers.{point, drained}
use Rattle.sctp_model.specs.sender.Reached.{IsReached}
use Rattle.sctp_model.specs.end.EndView.{TimedOut, Established, ShutdownPending, ShutdownSent, ShutdownReceived, ShutdownAckSent, AbortedHere, Phase, Idle, Listening, Calling, Echoing, Open, Over, Alarm, InitAlarm, CookieAlarm, DataAlarm, ShutdownAlarm, AckAlarm, ResetAlarm, EndView, format_of, has_association}
use Rattle.sctp_model.specs.end.EndView.{BeatAlarm, GuardAlarm}
use Rattle.sctp_model.specs.end.Clock.{is_over_at, with_timer, turned, closed, at_moment, settled}
use Rattle.sctp_model.specs.end.Clock.{expired_timer, may_go_on}
use Rattle.sctp_model.specs.end.Closing.{hears}
use Rattle.sctp_model.specs.end.Moments.{after_abandoning, is_data_due, given_up, due_again, rung, ring, rung_all, all_alarms, passed, ticked, waited_in}
use Rattle.sctp_model.specs.end.Wearing.{wearing}
use Rattle.sctp_model.proofs.PacedEnds.{worn_cases}
use Rattle.sctp_model.specs.end.UserCalls.{NotOpen, is_established, answer_for, send_answer, send_leaves, is_open, abandoned_at, UserTakes, ResetCall, Begun, NotAgreed, NoStream, reset_leaves, told_leaves, shut_in, shut, AbortAnswer, Aborts, NoPeer, TooLong, abort_leaves}
use Rattle.sctp_model.specs.end.UserCalls.{updating}
use Rattle.sctp_safety.proofs.runs.Drained.{drained_abandoned, drained_worn, drained_given_up, drained_timed_out}
use Rattle.sctp_safety.proofs.machine.Reconfigured.{retried_of}
use Rattle.sctp_safety.proofs.runs.Homes.{home_like, IsHome, home_turned}
use Rattle.sctp_safety.proofs.runs.Ending.{is_last, last_by_ack, AreEnding, ending_still, onward_same, onward_over, onward_open, ending_rested}

-- a timer that expires was running
pub was_running : (now : ℕ) (o : Option ℕ) → is_over_at now o ≡ true → (n : ℕ) × (o ≡ Some n)
was_running now None on = absurd (cc)
was_running now (Some n) on = (n, refl)

module _ (p : EndView) (out back : List ChunkMeaning) where
  abbrev Ending : EndView → Type 0
  Ending e = AreEnding e p out back

  -- the same state, and a sender that is drained if it was
  still : (e t : EndView) → Ending e → IsHome t → t.phase ≡ e.phase → (drained e.sender ≡ true → drained t.sender ≡ true) → Ending t
  still e t c home same keeps = ending_still e p t out back c (onward_same p out back e t c home same keeps)

  pub ending_now : (e : EndView) (now : ℕ) → Ending e → Ending (at_moment e now)
  ending_now e now c = still e (at_moment e now) c (home_like e _ c.this.home refl refl refl refl refl) refl (λ on. on)

  becomes_abandoned : (e : EndView) (a : SenderView) → Ending e → (drained e.sender ≡ true → drained a ≡ true) → Ending (after_abandoning e a)
  becomes_abandoned e a c keeps =
      ending_rested p out back (settled (record e { sender = a; due = record e.due { forward = e.due.forward || not (point a == point e.sender) } }))
      (still e _ c (home_like e _ c.this.home refl refl refl refl refl) refl keeps)

  -- at the end of a packet
  pub ending_worn : (from : ℕ) (e : EndView) → IsReached (format_of e) e.sender → Ending e → Ending (wearing from e)
  ending_worn from e h c = worn_cases Ending from e c (λ test on. becomes_abandoned e (worn test e.sender) c (drained_worn (format_of e) test e.sender h))

  -- ---- timers

  again : (a : Alarm) (e : EndView) → Ending e → is_over_at e.moment (e.timers a).expiry ≡ true → Ending (due_again a (with_timer a (expired_timer e.configuration.longest_wait (e.timers a)) e))
  again InitAlarm e c on = still e _ c (home_like e _ c.this.home refl refl refl refl refl) refl (λ y. y)
  again CookieAlarm e c on = still e _ c (home_like e _ c.this.home refl refl refl refl refl) refl (λ y. y)
  again DataAlarm e c on = still e _ c (home_like e _ c.this.home refl refl refl refl refl) refl (drained_timed_out e.sender)
  again ResetAlarm e c on = still e _ c (home_like e _ c.this.home refl refl refl refl refl) refl
      (λ y. subst (λ (v : SenderView). drained v ≡ true) (sym (retried_of e.sender).1) y)
  again BeatAlarm e c on = still e _ c (home_like e _ c.this.home refl refl refl refl refl) refl (λ y. y)
  again GuardAlarm e c on = still e _ c (home_like e _ c.this.home refl refl refl refl refl) refl (λ y. y)
  again ShutdownAlarm e c on = still e _ c (record {
    shutdown = λ z. let r = was_running e.moment (e.timers ShutdownAlarm).expiry on in c.this.home.shutdown_runs r.0 r.1;
    ack = c.this.home.ack;
    shutdown_runs = λ n z. absurd (cc);
    ack_runs = c.this.home.ack_runs;
  }) refl (λ y. y)
  again AckAlarm e c on = still e _ c (record {
    shutdown = c.this.home.shutdown;
    ack = λ z. let r = was_running e.moment (e.timers AckAlarm).expiry on in c.this.home.ack_runs r.0 r.1;
    shutdown_runs = c.this.home.shutdown_runs;
    ack_runs = λ n z. absurd (cc);
  }) refl (λ y. y)

  rings : (a : Alarm) (e : EndView) → Ending e → (b : Bool) → is_over_at e.moment (e.timers a).expiry ≡ b → Ending (rung b a e)
  rings a e c false is = c
  rings a e c true is = go (may_go_on a e)
    where
      go : (b : Bool) → Ending (if b then due_again a (with_timer a (expired_timer e.configuration.longest_wait (e.timers a)) e) else closed TimedOut e)
      go true = again a e c is
      go false = ending_still e p (closed TimedOut e) out back c (onward_over p out back e TimedOut (λ z. absurd (cc)))

  all_ring : (alarms : List Alarm) (e : EndView) → Ending e → Ending (rung_all alarms e)
  all_ring [] e c = c
  all_ring (a ∷ more) e c = all_ring more (ring a e) (rings a e c (is_over_at e.moment (e.timers a).expiry) refl)

  waits : (b : Bool) (e : EndView) → Ending e → Ending (waited_in b e)
  waits false e c = c
  waits true e c = still e (waited_in true e) c (home_like e (waited_in true e) c.this.home refl refl refl refl refl) refl (λ y. y)

  pub ending_ticked : (e : EndView) (now : ℕ) → IsReached (format_of e) e.sender → Ending e → Ending (ticked e now)
  ending_ticked e now h c = go (has_association e.phase)
    where
      there : Ending (at_moment e now)
      there = ending_now e now c

      go : (b : Bool) → Ending (if b then passed (at_moment e now) else at_moment e now)
      go false = there
      go true =
          let u = after_abandoning (at_moment e now) (given_up (is_data_due (at_moment e now)) e.sender (at_moment e now).moment) in
          let r = rung_all all_alarms u in
          waits (is_over_at r.moment r.delayed) r (all_ring all_alarms u
          (becomes_abandoned (at_moment e now) (given_up (is_data_due (at_moment e now)) e.sender (at_moment e now).moment) there (drained_given_up (format_of e) (is_data_due (at_moment e now)) e.sender (at_moment e now).moment h)))

  -- ---- the user

  pub ending_sent : (e : EndView) (c : Call) → Ending e → Ending (send_leaves (send_answer e c) e c)
  ending_sent e c k = go (hears is_established e.phase) refl
    where
      -- an established end isn't done
      early : (h : Phase) → hears is_established h ≡ true → is_last h ≡ true → ⊥
      early (Open t Established) on last = absurd (cc)
      early (Open t ShutdownPending) on last = absurd (cc)
      early (Open t ShutdownSent) on last = absurd (cc)
      early (Open t ShutdownReceived) on last = absurd (cc)
      early (Open t ShutdownAckSent) on last = absurd (cc)
      early Idle on last = absurd (cc)
      early Listening on last = absurd (cc)
      early (Calling d) on last = absurd (cc)
      early (Echoing t xs) on last = absurd (cc)
      early (Over why) on last = absurd (cc)

      more : hears is_established e.phase ≡ true → Ending (record e { sender = queued e.sender c.lane c.payload c.bytes c.until c.limit })
      more on = ending_still e p _ out back k (record {
        home = record { shutdown = k.this.home.shutdown; ack = k.this.home.ack; shutdown_runs = k.this.home.shutdown_runs; ack_runs = k.this.home.ack_runs };
        empty = λ late. absurd (early e.phase on (last_by_ack e.phase late));
        told = k.this.told;
        completed = λ is. absurd (let q : false ≡ true = subst (λ (h : Phase). hears is_established h ≡ true) is on in cc);
        lasts = λ d. absurd (early e.phase on d.last);
      })

      by : (o : Option Refusal) → hears is_established e.phase ≡ true → Ending (send_leaves (answer_for e o) e c)
      by None on = more on
      by (Some r) on = k

      go : (b : Bool) → hears is_established e.phase ≡ b → Ending (send_leaves (if b then answer_for e (refusal e.sender c.lane.stream c.bytes) else NotOpen) e c)
      go true on = by (refusal e.sender c.lane.stream c.bytes) on
      go false off = k

  pub ending_abandoned : (e : EndView) (k : ℕ) → IsReached (format_of e) e.sender → Ending e → Ending (abandoned_at e k)
  ending_abandoned e k h c = go (is_open e.phase)
    where
      go : (b : Bool) → Ending (if b then after_abandoning e (abandon_after e.sender k) else record e { sender = abandon_after e.sender k })
      go true = becomes_abandoned e (abandon_after e.sender k) c (drained_abandoned (format_of e) e.sender k h)
      go false = still e (record e { sender = abandon_after e.sender k }) c (home_like e _ c.this.home refl refl refl refl refl) refl (drained_abandoned (format_of e) e.sender k h)

  pub ending_taken : (e : EndView) (s : ℕ) (h : Option Handed) (t : EndView) → Ending e → UserTakes e s h t → Ending t
  ending_taken e s h t c k = subst Ending (sym k.leaves) (still e (updating (record e { receiver = k.receiver })) c (home_like e _ c.this.home refl refl refl refl refl) refl (λ on. on))

  pub ending_reset : (e : EndView) (a : ResetCall) (s : ℕ) → Ending e → Ending (reset_leaves a e s)
  ending_reset e Begun s c = still e (reset_leaves Begun e s) c (home_like e _ c.this.home refl refl refl refl refl) refl (λ on. on)
  ending_reset e NotAgreed s c = c
  ending_reset e NoStream s c = c

  pub ending_told : (e : EndView) (o : Option ℕ) → Ending e → Ending (told_leaves o e)
  ending_told e None c = c
  ending_told e (Some s) c = still e (told_leaves (Some s) e) c (home_like e _ c.this.home refl refl refl refl refl) refl (λ on. on)

  pub ending_shut : (e : EndView) → Ending e → Ending (shut e)
  ending_shut e c = go e.phase refl
    where
      go : (h : Phase) → e.phase ≡ h → Ending (shut_in h e)
      go (Open t Established) is =
          ending_rested p out back (turned (Open t ShutdownPending) e) (ending_still e p (turned (Open t ShutdownPending) e) out back c
          (onward_open p out back e (turned (Open t ShutdownPending) e) t ShutdownPending
          (λ last. let q : false ≡ true = subst (λ (k : Phase). is_last k ≡ true) is last in absurd (cc)) (home_turned (Open t ShutdownPending) e) refl (λ off. absurd (cc)) (λ off. absurd (cc))))
      go (Open t ShutdownPending) is = c
      go (Open t ShutdownSent) is = c
      go (Open t ShutdownReceived) is = c
      go (Open t ShutdownAckSent) is = c
      go Idle is = c
      go Listening is = c
      go (Calling d) is = c
      go (Echoing t xs) is = c
      go (Over why) is = c

  pub ending_aborted : (e : EndView) (a : AbortAnswer) → Ending e → Ending (abort_leaves a e)
  ending_aborted e (Aborts x) c = ending_still e p (closed AbortedHere e) out back c (onward_over p out back e AbortedHere (λ z. absurd (cc)))
  ending_aborted e NoPeer c = c
  ending_aborted e TooLong c = c
