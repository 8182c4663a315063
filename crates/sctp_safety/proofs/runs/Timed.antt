-- What a time and the calls of a user do to an endpoint that has met its peer.
use Rattle.std.proofs.Common.{◌≡◌, ℕ, ◌≤◌, ◌||◌, nat_lt, max, Bool, true, false, not, ◌==◌, List, [], ◌∷◌, ◌++◌, Option, Some, None, refl, sym, subst, arith, if◌then◌else◌}
use Rattle.sctp_model.specs.numbers.Lists.{at}
use Rattle.sctp_model.specs.sender.SenderView.{SenderView}
use Rattle.sctp_model.specs.receiver.ReceiverView.{Handed}
use Rattle.sctp_model.specs.world.Calls.{Call, Asked}
use Rattle.sctp_model.specs.sender.Queueing.{Refusal, refusal, queued}
use Rattle.sctp_model.specs.sender.Abandoning.{gives_up, abandon_after, expired, worn, timed_out}
use Rattle.sctp_model.specs.sender.Readers.{point}
use Rattle.sctp_model.specs.end.EndView.{TimedOut, Established, ShutdownPending, ShutdownSent, ShutdownReceived, ShutdownAckSent, AbortedHere, Phase, Idle, Listening, Calling, Echoing, Open, Over, Alarm, InitAlarm, CookieAlarm, DataAlarm, ShutdownAlarm, AckAlarm, ResetAlarm, EndView, format_of, has_association}
use Rattle.sctp_model.specs.end.EndView.{BeatAlarm, GuardAlarm}
use Rattle.sctp_model.specs.end.Clock.{is_over_at, with_timer, turned, closed, at_moment, settled}
use Rattle.sctp_model.specs.end.Clock.{expired_timer, may_go_on}
use Rattle.sctp_model.specs.end.Closing.{hears}
use Rattle.sctp_model.specs.end.Moments.{after_abandoning, is_data_due, given_up, due_again, rung, ring, rung_all, all_alarms, passed, ticked, waited_in}
use Rattle.sctp_model.specs.end.Wearing.{wearing}
use Rattle.sctp_model.proofs.PacedEnds.{worn_cases}
use Rattle.sctp_model.specs.end.UserCalls.{SendAnswer, Ticket, Refused, NotOpen, is_established, answer_for, send_answer, send_leaves, is_open, abandoned_at, UserTakes, ResetCall, Begun, NotAgreed, NoStream, reset_leaves, told_leaves, shut_in, shut, AbortAnswer, Aborts, NoPeer, TooLong, abort_leaves, abandons}
use Rattle.sctp_model.specs.end.UserCalls.{updating}
use Rattle.sctp_model.specs.sender.Resetting.{resetting, retried}
use Rattle.sctp_model.specs.receiver.ResetTaken.{told_of}
use Rattle.sctp_safety.proofs.runs.Asking.{after_resetting, after_retried}
use Rattle.sctp_safety.proofs.runs.Renumbering.{after_told}
use Rattle.sctp_safety.specs.States.{has_agreed}
use Rattle.sctp_safety.proofs.runs.Dates.{Dated}
use Rattle.sctp_safety.proofs.runs.Direction.{Direction}
use Rattle.sctp_safety.proofs.runs.Sending.{after_queue, after_abandon, after_expiry, after_wear, after_marking, after_tick}
use Rattle.sctp_safety.proofs.runs.Hearing.{after_take}
use Rattle.sctp_safety.proofs.runs.Pair.{met_views, IsMet, AreViews, met_same, met_rested}
use Rattle.sctp_model.proofs.sender.AnswerLaws.{gives_nothing}

module _ (p : EndView) (u v : Asked) (out back : List Dated) where
  abbrev Met : EndView → Type 0
  Met e = IsMet e p u v out back

  still : (e t : EndView) → Met e → AreViews e t → has_agreed t.phase ≡ true → Met t
  still e t m same phase = met_same e t p u v out back m same phase

  with_sender : (e : EndView) (a : SenderView) → Met e → Direction (format_of e) e.terms.outbound a u p.receiver out back → Met (record e { sender = a })
  with_sender e a m d = met_views e p u v out back out m a e.receiver d m.coming

  -- ---- time

  -- the endpoint takes a time that the clock has reached
  pub met_now : (e : EndView) (now : ℕ) → Met e → now ≤ u.clock → Met (at_moment e now)
  met_now e now m le = record {
    going = m.going;
    coming = m.coming;
    format = m.format;
    phase = m.phase;
    phase_there = m.phase_there;
    moment = let b = m.moment in omega (arith, b, le);
    moment_there = m.moment_there;
  }

  met_after_abandoning : (e : EndView) (a : SenderView) → Met e → Direction (format_of e) e.terms.outbound a u p.receiver out back → Met (after_abandoning e a)
  met_after_abandoning e a m d =
      met_rested (settled (record e { sender = a; due = record e.due { forward = e.due.forward || not (point a == point e.sender) } })) p u v out back
      (still (record e { sender = a }) _ (with_sender e a m d) (record { terms = refl; sender = refl; receiver = refl; moment = refl }) m.phase)

  -- at the end of a packet
  pub met_worn : (from : ℕ) (e : EndView) → Met e → Met (wearing from e)
  met_worn from e m = worn_cases Met from e m (λ test on. met_after_abandoning e (worn test e.sender) m
      (after_wear (format_of e) e.terms.outbound e.sender u p.receiver out back m.going test))

  met_again : (a : Alarm) (e : EndView) → Met e → Met (due_again a e)
  met_again InitAlarm e m = still e _ m (record { terms = refl; sender = refl; receiver = refl; moment = refl }) m.phase
  met_again CookieAlarm e m = still e _ m (record { terms = refl; sender = refl; receiver = refl; moment = refl }) m.phase
  met_again DataAlarm e m =
      still (record e { sender = timed_out e.sender }) _
      (with_sender e (timed_out e.sender) m (after_marking (format_of e) e.terms.outbound e.sender u p.receiver out back m.going (λ i. true)))
      (record { terms = refl; sender = refl; receiver = refl; moment = refl }) m.phase
  met_again ShutdownAlarm e m = still e _ m (record { terms = refl; sender = refl; receiver = refl; moment = refl }) m.phase
  met_again ResetAlarm e m =
      still (record e { sender = retried e.sender }) _
      (with_sender e (retried e.sender) m (after_retried (format_of e) e.terms.outbound e.sender u p.receiver out back m.going))
      (record { terms = refl; sender = refl; receiver = refl; moment = refl }) m.phase
  met_again BeatAlarm e m = still e _ m (record { terms = refl; sender = refl; receiver = refl; moment = refl }) m.phase
  met_again GuardAlarm e m = still e _ m (record { terms = refl; sender = refl; receiver = refl; moment = refl }) m.phase
  met_again AckAlarm e m = still e _ m (record { terms = refl; sender = refl; receiver = refl; moment = refl }) m.phase

  met_rung : (b : Bool) (a : Alarm) (e : EndView) → Met e → Met (rung b a e)
  met_rung false a e m = m
  met_rung true a e m = go (may_go_on a e)
    where
      go : (c : Bool) → Met (if c then due_again a (with_timer a (expired_timer e.configuration.longest_wait (e.timers a)) e) else closed TimedOut e)
      go true = met_again a (with_timer a (expired_timer e.configuration.longest_wait (e.timers a)) e)
          (still e (with_timer a (expired_timer e.configuration.longest_wait (e.timers a)) e) m (record { terms = refl; sender = refl; receiver = refl; moment = refl }) m.phase)
      go false = still e (closed TimedOut e) m (record { terms = refl; sender = refl; receiver = refl; moment = refl }) refl

  met_rung_all : (alarms : List Alarm) (e : EndView) → Met e → Met (rung_all alarms e)
  met_rung_all [] e m = m
  met_rung_all (a ∷ more) e m = met_rung_all more (ring a e) (met_rung (is_over_at e.moment (e.timers a).expiry) a e m)

  met_waited : (b : Bool) (e : EndView) → Met e → Met (waited_in b e)
  met_waited false e m = m
  met_waited true e m = still e (waited_in true e) m (record { terms = refl; sender = refl; receiver = refl; moment = refl }) m.phase

  pub met_ticked : (e : EndView) (now : ℕ) → Met e → now ≤ u.clock → Met (ticked e now)
  met_ticked e now m le = go (has_association e.phase)
    where
      there : Met (at_moment e now)
      there = met_now e now m le

      late : Direction (format_of e) e.terms.outbound (expired e.sender (at_moment e now).moment) u p.receiver out back
      late = after_expiry (format_of e) e.terms.outbound e.sender u p.receiver out back m.going (at_moment e now).moment there.moment

      gives_up : (b : Bool) → Direction (format_of e) e.terms.outbound (given_up b e.sender (at_moment e now).moment) u p.receiver out back
      gives_up true = after_wear (format_of e) e.terms.outbound (expired e.sender (at_moment e now).moment) u p.receiver out back late (λ i. true)
      gives_up false = late

      go : (b : Bool) → Met (if b then passed (at_moment e now) else at_moment e now)
      go false = there
      go true =
          let x = after_abandoning (at_moment e now) (given_up (is_data_due (at_moment e now)) e.sender (at_moment e now).moment) in
          let r = rung_all all_alarms x in
          met_waited (is_over_at r.moment r.delayed) r (met_rung_all all_alarms x
          (met_after_abandoning (at_moment e now) (given_up (is_data_due (at_moment e now)) e.sender (at_moment e now).moment) there
          (gives_up (is_data_due (at_moment e now)))))

  -- ---- calls that change nothing of the sender

  pub met_taken : (e : EndView) (s : ℕ) (h : Option Handed) (t : EndView) → Met e → UserTakes e s h t → Met t
  met_taken e s h t m k = subst Met (sym k.leaves)
      (still (record e { receiver = k.receiver }) (updating (record e { receiver = k.receiver }))
      (met_views e p u v out back out m e.sender k.receiver m.going (after_take (format_of p) p.terms.outbound p.sender v e.receiver back out m.coming s h k.receiver k.takes))
      (record { terms = refl; sender = refl; receiver = refl; moment = refl }) m.phase)

  pub met_reset : (e : EndView) (c : ResetCall) (s : ℕ) → Met e → Met (reset_leaves c e s)
  met_reset e Begun s m = with_sender e (resetting e.sender s) m (after_resetting (format_of e) e.terms.outbound e.sender u p.receiver out back m.going s)
  met_reset e NotAgreed s m = m
  met_reset e NoStream s m = m

  pub met_told : (e : EndView) (o : Option ℕ) → Met e → Met (told_leaves o e)
  met_told e None m = m
  met_told e (Some s) m = met_views e p u v out back out m e.sender (told_of e.receiver s) m.going
      (after_told (format_of p) p.terms.outbound p.sender v e.receiver back out m.coming s)

  pub met_shut : (e : EndView) → Met e → Met (shut e)
  met_shut e m = go e.phase
    where
      go : (h : Phase) → Met (shut_in h e)
      go (Open t Established) =
          met_rested (turned (Open t ShutdownPending) e) p u v out back
          (still e (turned (Open t ShutdownPending) e) m (record { terms = refl; sender = refl; receiver = refl; moment = refl }) refl)
      go (Open t ShutdownPending) = m
      go (Open t ShutdownSent) = m
      go (Open t ShutdownReceived) = m
      go (Open t ShutdownAckSent) = m
      go Idle = m
      go Listening = m
      go (Calling d) = m
      go (Echoing t xs) = m
      go (Over why) = m

  pub met_aborted : (e : EndView) (a : AbortAnswer) → Met e → Met (abort_leaves a e)
  met_aborted e (Aborts x) m = still e (closed AbortedHere e) m (record { terms = refl; sender = refl; receiver = refl; moment = refl }) refl
  met_aborted e NoPeer m = m
  met_aborted e TooLong m = m

-- ---- calls that are asked of the sender

-- the same endpoints, when the user has asked for more
met_asked : (e p : EndView) (u x v : Asked) (a : SenderView) (out back : List Dated) → IsMet e p u v out back → x.clock ≡ u.clock →
    Direction (format_of e) e.terms.outbound a x p.receiver out back → IsMet (record e { sender = a }) p x v out back
met_asked e p u x v a out back m clock d = record {
  going = d;
  coming = m.coming;
  format = m.format;
  phase = m.phase;
  phase_there = m.phase_there;
  moment = subst (λ (n : ℕ). e.moment ≤ n) (sym clock) m.moment;
  moment_there = m.moment_there;
}

-- what the user asked for, after an accepted call of send
abbrev pub asked_more : Asked → SendAnswer → Call → Asked
asked_more u (Ticket t) c = record u { calls = u.calls ++ c ∷ [] }
asked_more u (Refused r) c = u
asked_more u NotOpen c = u

pub met_sent : (e p : EndView) (u v : Asked) (out back : List Dated) (c : Call) → IsMet e p u v out back →
    IsMet (send_leaves (send_answer e c) e c) p (asked_more u (send_answer e c) c) v out back
met_sent e p u v out back c m = go (hears is_established e.phase)
  where
    by : (o : Option Refusal) → refusal e.sender c.lane.stream c.bytes ≡ o → IsMet (send_leaves (answer_for e o) e c) p (asked_more u (answer_for e o) c) v out back
    by None none = met_asked e p u (record u { calls = u.calls ++ c ∷ [] }) v (queued e.sender c.lane c.payload c.bytes c.until c.limit) out back m refl
        (after_queue (format_of e) e.terms.outbound e.sender u p.receiver out back m.going c none)
    by (Some r) some = m

    go : (b : Bool) → IsMet (send_leaves (if b then answer_for e (refusal e.sender c.lane.stream c.bytes) else NotOpen) e c) p
        (asked_more u (if b then answer_for e (refusal e.sender c.lane.stream c.bytes) else NotOpen) c) v out back
    go true = by (refusal e.sender c.lane.stream c.bytes) refl
    go false = m

pub met_abandoned : (e p : EndView) (u v : Asked) (out back : List Dated) (k : ℕ) → IsMet e p u v out back →
    IsMet (abandoned_at e k) p (record u { named = if gives_up (abandons e k) then at u.named k true else u.named }) v out back
met_abandoned e p u v out back k m = go (is_open e.phase)
  where
    x : Asked
    x = record u { named = if gives_up (abandons e k) then at u.named k true else u.named }

    -- if nothing is given up, nothing changes
    by_answer : (b : Bool) → gives_up (abandons e k) ≡ b →
        Direction (format_of e) e.terms.outbound (abandon_after e.sender k) (record u { named = if b then at u.named k true else u.named }) p.receiver out back
    by_answer true on = after_abandon (format_of e) e.terms.outbound e.sender u p.receiver out back m.going k
    by_answer false off =
        subst (λ (a : SenderView). Direction (format_of e) e.terms.outbound a u p.receiver out back) (sym (gives_nothing (format_of e) e.sender k m.going.reached off)) m.going

    d : Direction (format_of e) e.terms.outbound (abandon_after e.sender k) x p.receiver out back
    d = by_answer (gives_up (abandons e k)) refl

    less : IsMet (record e { sender = abandon_after e.sender k }) p x v out back
    less = met_asked e p u x v (abandon_after e.sender k) out back m refl d

    go : (b : Bool) → IsMet (if b then after_abandoning e (abandon_after e.sender k) else record e { sender = abandon_after e.sender k }) p x v out back
    go false = less
    go true =
        met_rested (settled (record e { sender = abandon_after e.sender k; due = record e.due { forward = e.due.forward || not (point (abandon_after e.sender k) == point e.sender) } })) p x v out back
        (met_same (record e { sender = abandon_after e.sender k }) _ p x v out back less (record { terms = refl; sender = refl; receiver = refl; moment = refl }) m.phase)

-- ---- the clock

-- the endpoint's clock goes on
pub met_clock : (e p : EndView) (u v : Asked) (out back : List Dated) (m : ℕ) → IsMet e p u v out back →
    IsMet e p (record u { clock = max u.clock m }) v out back
met_clock e p u v out back n m = record {
  going = after_tick (format_of e) e.terms.outbound e.sender u p.receiver out back m.going n;
  coming = m.coming;
  format = m.format;
  phase = m.phase;
  phase_there = m.phase_there;
  moment = let b = m.moment in omega (arith, b);
  moment_there = m.moment_there;
}
