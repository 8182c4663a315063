-- A SHUTDOWN and a SHUTDOWN ACK are due, and their timers run, in the state alone that sends them (RFC 9260, 9.2).
use Rattle.std.proofs.Common.{◌≡◌, ℕ, Bool, true, false, Some, inl, inr, refl, sym, subst, ap, ◌∙◌, if◌then◌else◌, ◌⊎◌, Option, None}
use Rattle.std.proofs.lemmas.Bool.{and_parts, or_cases}
use Rattle.sctp_model.specs.end.EndView.{Tags, Stage, Established, ShutdownPending, ShutdownSent, ShutdownReceived, ShutdownAckSent, Ended, Phase, Open, ShutdownAlarm, AckAlarm, Timer, EndView}
use Rattle.sctp_model.specs.end.Clock.{is_home, stopped, turned, closed, renewed_expiry}
use Rattle.sctp_model.specs.end.Closing.{says_shutdown, answers_shutdown, is_shutdown_sent}
use Rattle.sctp_model.specs.end.Arriving.{acknowledges, kept_going}

pub record IsHome (e : EndView) : Type 0 where
  pub shutdown : e.due.shutdown ≡ true → is_home ShutdownAlarm e.phase ≡ true
  pub ack : e.due.shutdown_ack ≡ true → is_home AckAlarm e.phase ≡ true
  pub shutdown_runs : (n : ℕ) → (e.timers ShutdownAlarm).expiry ≡ Some n → is_home ShutdownAlarm e.phase ≡ true
  pub ack_runs : (n : ℕ) → (e.timers AckAlarm).expiry ≡ Some n → is_home AckAlarm e.phase ≡ true

-- in the same state, with the same of these due, and these timers as they were
pub home_like : (e t : EndView) → IsHome e → t.phase ≡ e.phase → t.due.shutdown ≡ e.due.shutdown → t.due.shutdown_ack ≡ e.due.shutdown_ack →
    t.timers ShutdownAlarm ≡ e.timers ShutdownAlarm → t.timers AckAlarm ≡ e.timers AckAlarm → IsHome t
home_like e t h phase shutdown ack shutdown_timer ack_timer = record {
  shutdown = λ on. subst (λ (k : Phase). is_home ShutdownAlarm k ≡ true) (sym phase) (h.shutdown (sym shutdown ∙ on));
  ack = λ on. subst (λ (k : Phase). is_home AckAlarm k ≡ true) (sym phase) (h.ack (sym ack ∙ on));
  shutdown_runs = λ n on. subst (λ (k : Phase). is_home ShutdownAlarm k ≡ true) (sym phase) (h.shutdown_runs n (sym (ap (λ (x : Timer). x.expiry) shutdown_timer) ∙ on));
  ack_runs = λ n on. subst (λ (k : Phase). is_home AckAlarm k ≡ true) (sym phase) (h.ack_runs n (sym (ap (λ (x : Timer). x.expiry) ack_timer) ∙ on));
}

-- a timer that is kept at home alone
runs_at_home : (b : Bool) (t : Timer) (n : ℕ) → (if b then t else stopped t).expiry ≡ Some n → b ≡ true
runs_at_home true t n h = refl
runs_at_home false t n h = absurd (cc)

-- whoever goes to another state leaves the rest there
pub home_turned : (h : Phase) (e : EndView) → IsHome (turned h e)
home_turned h e = record {
  shutdown = λ on. (and_parts e.due.shutdown (is_home ShutdownAlarm h) on).1;
  ack = λ on. (and_parts e.due.shutdown_ack (is_home AckAlarm h) on).1;
  shutdown_runs = λ n on. runs_at_home (is_home ShutdownAlarm h) (e.timers ShutdownAlarm) n on;
  ack_runs = λ n on. runs_at_home (is_home AckAlarm h) (e.timers AckAlarm) n on;
}

pub home_closed : (why : Ended) (e : EndView) → IsHome (closed why e)
home_closed why e = record {
  shutdown = λ on. absurd (cc);
  ack = λ on. absurd (cc);
  shutdown_runs = λ n on. absurd (cc);
  ack_runs = λ n on. absurd (cc);
}

pub home_says : (t : Tags) (e : EndView) → IsHome (says_shutdown t e)
home_says t e =
    let h = home_turned (Open t ShutdownSent) e in
    record { shutdown = λ on. refl; ack = h.ack; shutdown_runs = h.shutdown_runs; ack_runs = h.ack_runs }

pub home_answers : (t : Tags) (e : EndView) → IsHome (answers_shutdown t e)
home_answers t e =
    let h = home_turned (Open t ShutdownAckSent) e in
    record { shutdown = h.shutdown; ack = λ on. refl; shutdown_runs = h.shutdown_runs; ack_runs = h.ack_runs }

-- only the state that sends SHUTDOWN repeats it
pub sends_shutdown : (t : Tags) (g : Stage) → is_shutdown_sent g ≡ true → is_home ShutdownAlarm (Open t g) ≡ true
sends_shutdown t Established on = absurd (cc)
sends_shutdown t ShutdownPending on = absurd (cc)
sends_shutdown t ShutdownSent on = refl
sends_shutdown t ShutdownReceived on = absurd (cc)
sends_shutdown t ShutdownAckSent on = absurd (cc)

pub home_acknowledges : (t : Tags) (g : Stage) (e : EndView) → e.phase ≡ Open t g → IsHome e → IsHome (acknowledges g e)
home_acknowledges t g e is h = record { shutdown = λ on. go (or_cases e.due.shutdown (is_shutdown_sent g) on); ack = h.ack; shutdown_runs = h.shutdown_runs; ack_runs = h.ack_runs }
  where
    go : (e.due.shutdown ≡ true) ⊎ (is_shutdown_sent g ≡ true) → is_home ShutdownAlarm e.phase ≡ true
    go (inl on) = h.shutdown on
    go (inr on) = subst (λ (k : Phase). is_home ShutdownAlarm k ≡ true) (sym is) (sends_shutdown t g on)

-- a timer that begins anew runs if it ran
pub home_renewed : (e : EndView) → IsHome e → IsHome (kept_going true e)
home_renewed e h = record { shutdown = h.shutdown; ack = h.ack; shutdown_runs = λ n on. by (e.timers ShutdownAlarm).expiry refl n on; ack_runs = h.ack_runs }
  where
    by : (o : Option ℕ) → (e.timers ShutdownAlarm).expiry ≡ o → (n : ℕ) → renewed_expiry e.configuration.first_wait e.moment o ≡ Some n → is_home ShutdownAlarm e.phase ≡ true
    by None rests n on = absurd (cc)
    by (Some m) runs n on = h.shutdown_runs m runs
