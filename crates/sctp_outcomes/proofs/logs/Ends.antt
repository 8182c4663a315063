-- Ends of which the same is noted.
use Rattle.std.proofs.Common.{not, ◌||◌, ◌==◌, ◌≡◌, length, arith, Bool, true, false, [], refl, sym, subst, ap, ◌∙◌}
use Rattle.sctp_model.specs.messages.Plan.{Plan}
use Rattle.sctp_model.specs.sender.SenderView.{SenderView, fresh_sender}
use Rattle.sctp_model.specs.sender.Filling.{begun_tickets}
use Rattle.sctp_model.specs.receiver.ReceiverView.{ReceiverView, fresh_receiver}
use Rattle.sctp_model.specs.end.EndView.{Configuration, Stage, Phase, Idle, Listening, Calling, Echoing, Open, Over, EndView, send_limits}
use Rattle.sctp_model.specs.sender.Readers.{point}
use Rattle.sctp_model.specs.end.Clock.{settled}
use Rattle.sctp_model.specs.end.Closing.{hears, rested}
use Rattle.sctp_model.specs.end.Moments.{after_abandoning}
use Rattle.sctp_safety.proofs.machine.EndWords.{rested_cases}
use Rattle.sctp_outcomes.specs.Kept.{is_before, IsNamed, IsSound, KeepsLogs}
use Rattle.sctp_outcomes.proofs.logs.Senders.{KeepsNumbers}

-- ---- phases

pub never : {X : Type 0} {b : Bool} → b ≡ false → b ≡ true → X
never {X} {b} off on = let q : false ≡ true = sym off ∙ on in absurd (cc)

-- what is heard, is heard with an association
pub heard_after : (f : Stage → Bool) (h : Phase) → hears f h ≡ true → is_before h ≡ false
heard_after f Idle on = absurd (cc)
heard_after f Listening on = absurd (cc)
heard_after f (Calling d) on = absurd (cc)
heard_after f (Echoing t xs) on = refl
heard_after f (Open t g) on = refl
heard_after f (Over why) on = refl

-- ---- logs

pub keeps_itself : (e : EndView) → IsSound e → KeepsLogs e e
keeps_itself e s = record { sound = s; grown = omega arith; numbers = refl; tickets = refl; taken = refl }

pub keeps_on : (e t u : EndView) → KeepsLogs e t → KeepsLogs t u → KeepsLogs e u
keeps_on e t u a b = record { sound = b.sound; grown = (let x = a.grown in let y = b.grown in omega (arith, x, y)); numbers = b.numbers ∙ a.numbers; tickets = b.tickets ∙ a.tickets; taken = b.taken ∙ a.taken }

-- Sender and receiver are the same; before an association it was so before.
pub same_keeps : (e t : EndView) → t.sender ≡ e.sender → t.receiver ≡ e.receiver → t.configuration ≡ e.configuration → (is_before t.phase ≡ true → is_before e.phase ≡ true)
    → IsSound e → KeepsLogs e t
same_keeps e t sender receiver configuration before s = record {
  sound = record {
    bare = λ on. let u = s.bare (before on) in record {
      sender = sender ∙ u.sender ∙ ap (λ (c : Configuration). fresh_sender 0 0 c.fragment 0 false (send_limits c)) (sym configuration);
      receiver = receiver ∙ u.receiver ∙ ap (λ (c : Configuration). fresh_receiver 0 0 c.buffer c.reserve) (sym configuration);
    };
    buffer = ap (λ (r : ReceiverView). r.buffer) receiver ∙ s.buffer ∙ ap (λ (c : Configuration). c.buffer) (sym configuration);
    named = subst (λ (v : SenderView). IsNamed v.plan) (sym sender) s.named;
  };
  grown = (let q = ap (λ (v : SenderView). length v.plan.entries) sender in omega (arith, q));
  numbers = ap (λ (v : SenderView). begun_tickets v.plan v.plan.entries) sender;
  tickets = ap (λ (v : SenderView). v.tickets) sender;
  taken = ap (λ (r : ReceiverView). r.taken) receiver;
}

-- a receiver of which the same was taken, and its buffer
pub record IsSameToUser (r t : ReceiverView) : Type 0 where
  pub taken : t.taken ≡ r.taken
  pub buffer : t.buffer ≡ r.buffer

-- with an association: the plan is the same, and what was taken
pub joined_keeps : (e t : EndView) → t.sender.plan ≡ e.sender.plan → t.sender.tickets ≡ e.sender.tickets → IsSameToUser e.receiver t.receiver → t.configuration ≡ e.configuration
    → is_before t.phase ≡ false → IsSound e → KeepsLogs e t
joined_keeps e t plan tickets same configuration after s = record {
  sound = record {
    bare = λ on. never after on;
    buffer = same.buffer ∙ s.buffer ∙ ap (λ (c : Configuration). c.buffer) (sym configuration);
    named = subst IsNamed (sym plan) s.named;
  };
  grown = (let q = ap (λ (p : Plan). length p.entries) plan in omega (arith, q));
  numbers = ap (λ (p : Plan). begun_tickets p p.entries) plan;
  tickets = tickets;
  taken = same.taken;
}

-- the sender alone changed, and keeps its numbers
pub sender_keeps : (e t : EndView) → KeepsNumbers e.sender t.sender → t.receiver ≡ e.receiver → t.configuration ≡ e.configuration → t.phase ≡ e.phase → IsSound e → KeepsLogs e t
sender_keeps e t k receiver configuration phase s = record {
  sound = record {
    bare = λ on. let u = s.bare (ap is_before (sym phase) ∙ on) in record {
      sender = k.new e.configuration.fragment (send_limits e.configuration) u.sender ∙ ap (λ (c : Configuration). fresh_sender 0 0 c.fragment 0 false (send_limits c)) (sym configuration);
      receiver = receiver ∙ u.receiver ∙ ap (λ (c : Configuration). fresh_receiver 0 0 c.buffer c.reserve) (sym configuration);
    };
    buffer = ap (λ (r : ReceiverView). r.buffer) receiver ∙ s.buffer ∙ ap (λ (c : Configuration). c.buffer) (sym configuration);
    named = k.named s.named;
  };
  grown = k.grown;
  numbers = k.numbers;
  tickets = k.tickets;
  taken = ap (λ (r : ReceiverView). r.taken) receiver;
}

-- it had no association, and has one now: sender and receiver are new
pub begins_keeps : (e t : EndView) → t.sender.plan ≡ record { messages = λ l. []; entries = [] } → t.sender.tickets ≡ 0 → t.receiver.taken ≡ (λ s. []) → t.receiver.buffer ≡ t.configuration.buffer → is_before t.phase ≡ false
    → is_before e.phase ≡ true → IsSound e → KeepsLogs e t
begins_keeps e t plan tickets taken buffer after before s =
    let u = s.bare before in record {
      sound = record { bare = λ on. never after on; buffer = buffer; named = subst IsNamed (sym plan) (λ x none. absurd none) };
      grown = (let q : length e.sender.plan.entries ≡ 0 = ap (λ (v : SenderView). length v.plan.entries) u.sender in omega (arith, q));
      numbers = ap (λ (p : Plan). begun_tickets p p.entries) plan ∙ sym (ap (λ (v : SenderView). begun_tickets v.plan v.plan.entries) u.sender);
      tickets = tickets ∙ sym (ap (λ (v : SenderView). v.tickets) u.sender);
      taken = taken ∙ sym (ap (λ (r : ReceiverView). r.taken) u.receiver);
    }

-- an endpoint that is drained goes on with closing
pub rested_keeps : (e : EndView) → IsSound e → KeepsLogs e (rested e)
rested_keeps e s =
    rested_cases (KeepsLogs e) e (keeps_itself e s)
    (λ t is d. same_keeps e _ refl refl refl (λ on. absurd (cc)) s) (λ t is d. same_keeps e _ refl refl refl (λ on. absurd (cc)) s)

pub abandoning_keeps : (e : EndView) (v : SenderView) → KeepsNumbers e.sender v → IsSound e → KeepsLogs e (after_abandoning e v)
abandoning_keeps e v k s =
    let mid = settled (record e { sender = v; due = record e.due { forward = e.due.forward || not (point v == point e.sender) } }) in
    let first = sender_keeps e mid k refl refl refl s in
    keeps_on e mid (rested mid) first (rested_keeps mid first.sound)
