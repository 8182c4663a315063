-- The log of a user, as its endpoint goes on.
use Rattle.std.proofs.Common.{◌≡◌, ℕ, List, [], ◌∷◌, ◌++◌, map, refl, sym, ap, subst, ◌∙◌, append_assoc}
use Rattle.std.specs.declared.vec.Vec.{Vec}
use Rattle.std.specs.declared.alloc.Global.{Global}
use Rattle.std.proofs.lemmas.List.{append-nil, map-append}
use Rattle.sctp_model.specs.numbers.Lists.{joined, at}
use Rattle.sctp_model.specs.receiver.ReceiverView.{Handed}
use Rattle.sctp_model.specs.sender.Filling.{newly_numbered}
use Rattle.sctp_model.specs.end.EndView.{EndView}
use Rattle.sctp_model.specs.world.World.{Log}
use Rattle.sctp_model.specs.world.Calls.{Call}
use Rattle.sctp_model.specs.end.UserCalls.{SendAnswer, Ticket as Accepted, send_answer, send_leaves}
use Rattle.sctp_outcomes.specs.Kept.{IsSound, numbered, HasNoLogs, KeepsLogs, AddsNumbers, AddsTicket, AddsTaken, SendNotes}
use Rattle.sctp_outcomes.proofs.logs.Called.{send_gives_tickets}
use Rattle.sctp_script.specs.ReportText.{ticket_number}
use Rattle.sctp_values.specs.declared.ticket.Ticket.{Ticket}
use Rattle.sctp_pair.specs.Taken.{IsLogged, AreLogged}
use Rattle.sctp_pair.specs.Noted.{tickets_noted, AreNoted}
use Rattle.sctp_pair.specs.declared.taken.StreamLog.{StreamLog}
use Rattle.std.specs.Prelude.{slice_get}

-- ---- lists

joined-append : (xs ys : List (List ℕ)) → joined (xs ++ ys) ≡ joined xs ++ joined ys
joined-append [] ys = refl
joined-append (x ∷ xs) ys = ap (λ (zs : List ℕ). x ++ zs) (joined-append xs ys) ∙ sym (append_assoc x (joined xs) (joined ys))

-- the tickets of one packet more
pub noted_push : (ps : List (Vec Ticket Global)) (p : Vec Ticket Global) → tickets_noted (ps ++ p ∷ []) ≡ tickets_noted ps ++ map ticket_number p.items
noted_push ps p =
    ap joined (map-append (λ (ts : Vec Ticket Global). map ticket_number ts.items) ps (p ∷ []))
    ∙ (joined-append (map (λ (ts : Vec Ticket Global). map ticket_number ts.items) ps) (map ticket_number p.items ∷ [])
    ∙ ap (λ (ks : List ℕ). tickets_noted ps ++ ks) (append-nil (map ticket_number p.items)))

same_logged : (ls : List StreamLog) (f g : ℕ → List Handed) → g ≡ f → AreLogged ls f → AreLogged ls g
same_logged ls f g same all = λ (s : ℕ). subst (λ (h : ℕ → List Handed). IsLogged (slice_get ls s) (h s)) (sym same) (all s)

-- ---- notes

module _ (packets : List (Vec Ticket Global)) (gone : List Ticket) (taken : List StreamLog) (e t : EndView) (l : Log) where
  -- nothing is to be noted
  pub notes_kept : AreNoted packets gone taken e l → KeepsLogs e t → AreNoted packets gone taken t l
  notes_kept n k = record { numbers = n.numbers ∙ sym k.numbers; order = n.order; taken = same_logged taken e.receiver.taken t.receiver.taken k.taken n.taken }

  -- .. but the call of a message
  pub notes_same : (m : Log) → AreNoted packets gone taken e l → numbered t ≡ numbered e → t.receiver.taken ≡ e.receiver.taken → m.order ≡ l.order → AreNoted packets gone taken t m
  notes_same m n numbers same order = record { numbers = n.numbers ∙ sym numbers; order = n.order ∙ sym order; taken = same_logged taken e.receiver.taken t.receiver.taken same n.taken }

  -- a packet was built
  pub notes_numbered : (more : List (Vec Ticket Global)) (tickets : Vec Ticket Global) → more ≡ packets ++ tickets ∷ [] → map ticket_number tickets.items ≡ newly_numbered e.sender t.sender →
      AreNoted packets gone taken e l → AddsNumbers e t → AreNoted more gone taken t l
  notes_numbered more tickets is told n a = record {
    numbers =
        ap tickets_noted is
        ∙ (noted_push packets tickets
        ∙ (ap (λ (ks : List ℕ). ks ++ map ticket_number tickets.items) n.numbers ∙ (ap (λ (ks : List ℕ). numbered e ++ ks) told ∙ sym a.numbers)));
    order = n.order;
    taken = same_logged taken e.receiver.taken t.receiver.taken a.taken n.taken;
  }

  -- messages were abandoned
  pub notes_abandoned : (more : List Ticket) (m : Log) (ks : List ℕ) → map ticket_number more ≡ map ticket_number gone ++ ks → m.order ≡ l.order ++ ks →
      AreNoted packets gone taken e l → KeepsLogs e t → AreNoted packets more taken t m
  notes_abandoned more m ks is order n k = record {
    numbers = n.numbers ∙ sym k.numbers;
    order = is ∙ (ap (λ (xs : List ℕ). xs ++ ks) n.order ∙ sym order);
    taken = same_logged taken e.receiver.taken t.receiver.taken k.taken n.taken;
  }

  -- a message was taken
  pub notes_taken : (more : List StreamLog) (s : ℕ) (h : Handed) → AreLogged more (at e.receiver.taken s (e.receiver.taken s ++ h ∷ [])) → AreNoted packets gone taken e l → AddsTaken e s h t →
      AreNoted packets gone more t l
  notes_taken more s h logged n a = record {
    numbers = n.numbers ∙ sym a.numbers;
    order = n.order;
    taken = same_logged more (at e.receiver.taken s (e.receiver.taken s ++ h ∷ [])) t.receiver.taken a.taken logged;
  }

-- of an end of which nothing is noted
pub notes_none : (gone : List Ticket) (logs : List StreamLog) (t : EndView) (l : Log) → map ticket_number gone ≡ l.order → AreLogged logs (λ s. []) → HasNoLogs t
    → AreNoted [] gone logs t l
notes_none gone logs t l order quiet none =
    record { numbers = sym none.numbers; order = order; taken = same_logged logs (λ s. []) t.receiver.taken none.taken quiet }

-- ---- calls

-- a message was accepted
pub gives_ticket : (e : EndView) (c : Call) (n : ℕ) → IsSound e → send_answer e c ≡ Accepted n → AddsTicket e (send_leaves (Accepted n) e c)
gives_ticket e c n sound is = subst (λ (a : SendAnswer). SendNotes a e (send_leaves a e c)) is (send_gives_tickets e c sound)
