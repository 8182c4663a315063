-- What a RE-CONFIG leaves of an endpoint: all but what its sender and its receiver know of resets, what is due of them, and their timer.
use Rattle.std.proofs.Common.{◌≡◌, ℕ, suc, nat_lt, Bool, true, false, ◌&&◌, List, [], ◌∷◌, Option, None, Some, refl, ap, ◌∙◌, if◌then◌else◌, is_some}
use Rattle.std.specs.Prelude.{drop}
use Rattle.sctp_model.specs.numbers.Limits.{REQUEST_LIMIT}
use Rattle.sctp_model.specs.numbers.Numbers.{u32_at}
use Rattle.sctp_model.specs.wire.Typed.{Typed}
use Rattle.sctp_model.specs.wire.Reconfig.{OUTGOING_RESET, RECONFIG_RESPONSE, ResetResult, Performed, Denied, WrongStream, BadNumber, InProgress, reset_read, is_parameter, is_other_request, response_item, is_done_code, is_progress_code, is_number_code, ResetMeaning}
use Rattle.sctp_model.specs.sender.Outgoing.{Outgoing, Request, LaterNumber, takes_next}
use Rattle.sctp_model.specs.sender.SenderView.{SenderView}
use Rattle.sctp_model.specs.sender.Resetting.{with_resets, reset_done, reset_refused, kept_asking, number_back, numbered_so, is_past_first, retried_in, retried, reset_answered, answered_in, is_open_number, may_ask, response_taken}
use Rattle.sctp_model.specs.receiver.Incoming.{Incoming}
use Rattle.sctp_model.specs.receiver.ReceiverView.{ReceiverView}
use Rattle.sctp_model.specs.receiver.ResetTaken.{names, reset_answer, is_in_turn, answer_in_turn, renumbered_by, request_taken, reset_taken, denied, with_answer, with_answers, names_anew, other_meaning}
use Rattle.sctp_model.specs.end.EndView.{ShutdownAlarm, AckAlarm, ResetAlarm, EndView, DataAlarm, unused_timer, BeatAlarm, GuardAlarm}
use Rattle.sctp_model.specs.end.Closing.{with_due}
use Rattle.sctp_model.specs.end.Moments.{due_again}
use Rattle.sctp_model.specs.end.Clock.{is_home, with_timer}
use Rattle.sctp_model.specs.end.Reconfiguring.{answers_with, request_heard, other_heard, response_heard, asking_on, in_progress, parameter_heard, parameters_heard, asking_now, asking}

-- ---- a sender and a receiver

-- the sender, but for resets
abbrev pub IsResetOf : SenderView → SenderView → Type 0
IsResetOf v u = (x : Outgoing) × (u ≡ with_resets x v)

-- the receiver, but for resets
abbrev pub IsResetIn : ReceiverView → ReceiverView → Type 0
IsResetIn r s = (x : Incoming) × (s ≡ record r { resets = x })

answered_of : (v : SenderView) (code : ℕ) (q : Request) → IsResetOf v (reset_answered v code q)
answered_of v code q = go (is_done_code code) (is_progress_code code) (is_number_code code && is_past_first v q)
  where
    go : (b d w : Bool) → IsResetOf v (if b then reset_done v q else if d then kept_asking v q else if w then number_back v q else reset_refused v q)
    go true d w = ((reset_done v q).resets, refl)
    go false true w = ((kept_asking v q).resets, refl)
    go false false true = ((number_back v q).resets, refl)
    go false false false = ((reset_refused v q).resets, refl)

-- a request that is retransmitted
pub retried_of : (v : SenderView) → IsResetOf v (retried v)
retried_of v = go v.resets.pending
  where
    by : (q : Request) (b : Bool) → IsResetOf v (if b then numbered_so v (suc v.resets.made) LaterNumber q else v)
    by q true = ((numbered_so v (suc v.resets.made) LaterNumber q).resets, refl)
    by q false = (v.resets, refl)

    go : (o : Option Request) → IsResetOf v (retried_in v o)
    go None = (v.resets, refl)
    go (Some q) = by q (takes_next q.numbering && nat_lt v.resets.made REQUEST_LIMIT)

pub response_of : (v : SenderView) (number code : ℕ) → IsResetOf v (response_taken v number code)
response_of v number code = go (is_open_number v number) v.resets.pending
  where
    go : (b : Bool) (o : Option Request) → IsResetOf v (if b then answered_in v code o else v)
    go false o = (v.resets, refl)
    go true None = (v.resets, refl)
    go true (Some q) = answered_of v code q

pub taken_in : (r : ReceiverView) (m : ResetMeaning) (named anew : ℕ → Bool) (a : ResetResult) → IsResetIn r (request_taken r m named anew a)
taken_in r m named anew a = go (is_in_turn r m.number) a
  where
    go : (b : Bool) (x : ResetResult) → IsResetIn r (if b then with_answer (renumbered_by r named anew x) m x else r)
    go false x = (r.resets, refl)
    go true Performed = ((with_answer (renumbered_by r named anew Performed) m Performed).resets, refl)
    go true Denied = ((with_answer r m Denied).resets, refl)
    go true WrongStream = ((with_answer r m WrongStream).resets, refl)
    go true BadNumber = ((with_answer r m BadNumber).resets, refl)
    go true InProgress = ((with_answer r m InProgress).resets, refl)

-- and with these answers
pub waiting_in : (r s : ReceiverView) (xs : List Typed) → IsResetIn r s → IsResetIn r (with_answers s xs)
waiting_in r s xs (x, is) = (record x { answers = xs }, ap (λ (t : ReceiverView). with_answers t xs) is)

-- ---- an endpoint

-- the same end, but for resets
pub record IsReconfigured (e t : EndView) : Type 0 where
  pub configuration : t.configuration ≡ e.configuration
  pub role : t.role ≡ e.role
  pub phase : t.phase ≡ e.phase
  pub moment : t.moment ≡ e.moment
  pub terms : t.terms ≡ e.terms
  pub shutdown : t.due.shutdown ≡ e.due.shutdown
  pub ack : t.due.shutdown_ack ≡ e.due.shutdown_ack
  pub shutdown_timer : t.timers ShutdownAlarm ≡ e.timers ShutdownAlarm
  pub ack_timer : t.timers AckAlarm ≡ e.timers AckAlarm
  pub data_timer : t.timers DataAlarm ≡ e.timers DataAlarm
  pub pace : t.pace ≡ e.pace
  pub beats : t.beats ≡ e.beats
  pub beat_timer : t.timers BeatAlarm ≡ e.timers BeatAlarm
  pub beat_due : t.due.beat ≡ e.due.beat
  pub sender : IsResetOf e.sender t.sender
  pub receiver : IsResetIn e.receiver t.receiver

pub reconfigured_same : (e : EndView) → IsReconfigured e e
reconfigured_same e = record {
  configuration = refl;
  role = refl;
  phase = refl;
  moment = refl;
  terms = refl;
  shutdown = refl;
  ack = refl;
  shutdown_timer = refl;
  ack_timer = refl;
  data_timer = refl;
  pace = refl;
  beats = refl;
  beat_timer = refl;
  beat_due = refl;
  sender = (e.sender.resets, refl);
  receiver = (e.receiver.resets, refl);
}

pub reconfigured_on : (e t u : EndView) → IsReconfigured e t → IsReconfigured t u → IsReconfigured e u
reconfigured_on e t u a b = record {
  configuration = b.configuration ∙ a.configuration;
  role = b.role ∙ a.role;
  phase = b.phase ∙ a.phase;
  moment = b.moment ∙ a.moment;
  terms = b.terms ∙ a.terms;
  shutdown = b.shutdown ∙ a.shutdown;
  ack = b.ack ∙ a.ack;
  shutdown_timer = b.shutdown_timer ∙ a.shutdown_timer;
  ack_timer = b.ack_timer ∙ a.ack_timer;
  data_timer = b.data_timer ∙ a.data_timer;
  pace = b.pace ∙ a.pace;
  beats = b.beats ∙ a.beats;
  beat_timer = b.beat_timer ∙ a.beat_timer;
  beat_due = b.beat_due ∙ a.beat_due;
  sender = (b.sender.0, b.sender.1 ∙ ap (λ (v : SenderView). with_resets b.sender.0 v) a.sender.1);
  receiver = (b.receiver.0, b.receiver.1 ∙ ap (λ (r : ReceiverView). record r { resets = b.receiver.0 }) a.receiver.1);
}

-- with this sender, and no more
of_sender : (e : EndView) (v : SenderView) → IsResetOf e.sender v → IsReconfigured e (record e { sender = v })
of_sender e v is = record {
  configuration = refl;
  role = refl;
  phase = refl;
  moment = refl;
  terms = refl;
  shutdown = refl;
  ack = refl;
  shutdown_timer = refl;
  ack_timer = refl;
  data_timer = refl;
  pace = refl;
  beats = refl;
  beat_timer = refl;
  beat_due = refl;
  sender = is;
  receiver = (e.receiver.resets, refl);
}

-- its timer expires, and a request is retransmitted
pub again_same : (e : EndView) → IsReconfigured e (due_again ResetAlarm e)
again_same e = record {
  configuration = refl;
  role = refl;
  phase = refl;
  moment = refl;
  terms = refl;
  shutdown = refl;
  ack = refl;
  shutdown_timer = refl;
  ack_timer = refl;
  data_timer = refl;
  pace = refl;
  beats = refl;
  beat_timer = refl;
  beat_due = refl;
  sender = retried_of e.sender;
  receiver = (e.receiver.resets, refl);
}

progress_same : (b : Bool) (e : EndView) → IsReconfigured e (in_progress b e)
progress_same false e = reconfigured_same e
progress_same true e = record {
  configuration = refl;
  role = refl;
  phase = refl;
  moment = refl;
  terms = refl;
  shutdown = refl;
  ack = refl;
  shutdown_timer = refl;
  ack_timer = refl;
  data_timer = refl;
  pace = refl;
  beats = refl;
  beat_timer = refl;
  beat_due = refl;
  sender = (e.sender.resets, refl);
  receiver = (e.receiver.resets, refl);
}

asking_on_same : (e : EndView) → IsReconfigured e (asking_on e)
asking_on_same e = go (is_some e.sender.resets.pending)
  where
    go : (b : Bool) → IsReconfigured e (if b then e else with_timer ResetAlarm (unused_timer e.configuration.first_wait) (with_due (record e.due { request = false }) e))
    go true = reconfigured_same e
    go false = record {
      configuration = refl;
      role = refl;
      phase = refl;
      moment = refl;
      terms = refl;
      shutdown = refl;
      ack = refl;
      shutdown_timer = refl;
      ack_timer = refl;
      data_timer = refl;
      pace = refl;
      beats = refl;
      beat_timer = refl;
      beat_due = refl;
      sender = (e.sender.resets, refl);
      receiver = (e.receiver.resets, refl);
    }

response_same : (e : EndView) (number code : ℕ) → IsReconfigured e (response_heard e number code)
response_same e number code =
    let t = record e { sender = response_taken e.sender number code } in
    let u = in_progress (is_open_number e.sender number) t in
    reconfigured_on e t (asking_on u) (of_sender e (response_taken e.sender number code) (response_of e.sender number code))
    (reconfigured_on t u (asking_on u) (progress_same (is_open_number e.sender number) t) (asking_on_same u))

pub parameter_same : (c : ℕ) (e : EndView) (x : Typed) → IsReconfigured e (parameter_heard c e x)
parameter_same c e x = go (is_parameter OUTGOING_RESET 12 x) (is_parameter RECONFIG_RESPONSE 8 x) (is_other_request x)
  where
    go : (a b d : Bool) → IsReconfigured e (if a then request_heard c e (reset_read x) else if b then response_heard e (u32_at x.value) (u32_at (drop 4 x.value)) else if d then other_heard e (u32_at x.value) else e)
    go true b d = record {
      configuration = refl;
      role = refl;
      phase = refl;
      moment = refl;
      terms = refl;
      shutdown = refl;
      ack = refl;
      shutdown_timer = refl;
      ack_timer = refl;
      data_timer = refl;
      pace = refl;
      beats = refl;
      beat_timer = refl;
      beat_due = refl;
      sender = (e.sender.resets, refl);
      receiver = let m = reset_read x in waiting_in e.receiver (reset_taken e.receiver c m) (answers_with e (response_item m.number (answer_in_turn e.receiver m.number (reset_answer e.receiver c m)))) (taken_in e.receiver m (names e.receiver m.streams) (names_anew e.receiver m) (reset_answer e.receiver c m));
    }
    go false true d = response_same e (u32_at x.value) (u32_at (drop 4 x.value))
    go false false true = record {
      configuration = refl;
      role = refl;
      phase = refl;
      moment = refl;
      terms = refl;
      shutdown = refl;
      ack = refl;
      shutdown_timer = refl;
      ack_timer = refl;
      data_timer = refl;
      pace = refl;
      beats = refl;
      beat_timer = refl;
      beat_due = refl;
      sender = (e.sender.resets, refl);
      receiver = let n = u32_at x.value in waiting_in e.receiver (denied e.receiver n) (answers_with e (response_item n (answer_in_turn e.receiver n Denied))) (taken_in e.receiver (other_meaning n) (λ s. false) (λ s. false) Denied);
    }
    go false false false = reconfigured_same e

-- So it is after all parameters.
pub parameters_same : (c : ℕ) (e : EndView) (xs : List Typed) → IsReconfigured e (parameters_heard c e xs)
parameters_same c e [] = reconfigured_same e
parameters_same c e (x ∷ xs) = reconfigured_on e (parameter_heard c e x) (parameters_heard c (parameter_heard c e x) xs) (parameter_same c e x) (parameters_same c (parameter_heard c e x) xs)

-- And once a request is made.
pub asking_same : (e : EndView) → IsReconfigured e (asking e)
asking_same e = go (e.terms.reset && (is_home ResetAlarm e.phase && may_ask e.sender))
  where
    go : (b : Bool) → IsReconfigured e (asking_now b e)
    go false = reconfigured_same e
    go true = record {
      configuration = refl;
      role = refl;
      phase = refl;
      moment = refl;
      terms = refl;
      shutdown = refl;
      ack = refl;
      shutdown_timer = refl;
      ack_timer = refl;
      data_timer = refl;
      pace = refl;
      beats = refl;
      beat_timer = refl;
      beat_due = refl;
      sender = (_, refl);
      receiver = (e.receiver.resets, refl);
    }
