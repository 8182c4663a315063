-- Nothing went out yet: a packet whose marks are all that is due leaves its end as it is.
use Rattle.std.proofs.Common.{◌≡◌, ◌∙◌, ℕ, Bool, true, false, Option, refl, ap}
use Rattle.sctp_model.specs.receiver.ReceiverView.{ReceiverView}
use Rattle.sctp_model.specs.end.EndView as model
use Rattle.sctp_model.specs.end.EndView.{EndView, Alarm}
use Rattle.sctp_association.specs.StartsMean.{starts_at, started_from}
use Rattle.sctp_association.specs.Drafted.{receiver_left, answers_left, offered_left, delayed_left, due_left, drafted}
use Rattle.sctp_association.specs.declared.build.packing.Marks.{Marks}

pub due_same : (m : Marks) (d : model.Due) → m.init ≡ d.init → m.cookie_echo ≡ d.cookie_echo → m.cookie_ack ≡ d.cookie_ack → m.heartbeat ≡ true → m.causes ≡ true → m.sack ≡ d.sack
    → m.forward ≡ d.forward → m.request ≡ d.request → m.shutdown ≡ d.shutdown → m.shutdown_ack ≡ d.shutdown_ack → due_left m d ≡ d
due_same m d init echo ack heartbeat causes sack forward request shutdown shutdown_ack = rw (init, echo, ack, heartbeat, causes, sack, forward, request, shutdown, shutdown_ack) refl

receiver_same : (b : Bool) (r : ReceiverView) → receiver_left b b r ≡ r
receiver_same true r = refl
receiver_same false r = refl

offered_same : (b : Bool) (r : ReceiverView) (n : ℕ) → offered_left b b r n ≡ n
offered_same true r n = refl
offered_same false r n = refl

delayed_same : (b : Bool) (d : Option ℕ) → delayed_left b b d ≡ d
delayed_same true d = refl
delayed_same false d = refl

pub drafted_same : (m : Marks) (e : EndView) → due_left m e.due ≡ e.due → m.sack ≡ e.due.sack → m.answers ≡ true → starts_at m.starts ≡ (λ a. false) → drafted m e ≡ e
drafted_same m e due sack answers starts =
    let r : answers_left m.answers (receiver_left e.due.sack m.sack e.receiver) ≡ e.receiver =
    ap (λ (b : Bool). answers_left b (receiver_left e.due.sack m.sack e.receiver)) answers ∙ (ap (λ (b : Bool). receiver_left e.due.sack b e.receiver) sack ∙ receiver_same e.due.sack e.receiver) in
    let o : offered_left e.due.sack m.sack e.receiver e.offered ≡ e.offered = ap (λ (b : Bool). offered_left e.due.sack b e.receiver e.offered) sack ∙ offered_same e.due.sack e.receiver e.offered in
    let w : delayed_left e.due.sack m.sack e.delayed ≡ e.delayed = ap (λ (b : Bool). delayed_left e.due.sack b e.delayed) sack ∙ delayed_same e.due.sack e.delayed in
    ap (λ (d : model.Due). record (drafted m e) { due = d }) due
    ∙ (ap (λ (p : Alarm → Bool). record e {
      timers = started_from p e.moment e.timers;
      delayed = delayed_left e.due.sack m.sack e.delayed;
      offered = offered_left e.due.sack m.sack e.receiver e.offered;
      receiver = answers_left m.answers (receiver_left e.due.sack m.sack e.receiver);
    }) starts
    ∙ (ap (λ (n : Option ℕ). record e {
      delayed = n;
      offered = offered_left e.due.sack m.sack e.receiver e.offered;
      receiver = answers_left m.answers (receiver_left e.due.sack m.sack e.receiver);
    }) w
    ∙ (ap (λ (n : ℕ). record e { offered = n; receiver = answers_left m.answers (receiver_left e.due.sack m.sack e.receiver) }) o
    ∙ ap (λ (x : ReceiverView). record e { receiver = x }) r)))
