-- What each event notes at an endpoint: the messages that its user took from a stream, and how many tickets were given.
use Rattle.std.proofs.Common.{◌≡◌, ℕ, ◌+◌, max, Bool, true, false, List, [], ◌∷◌, ◌++◌, length, Option, Some, None, refl, sym, subst, ap, ◌∙◌, arith}
use Rattle.std.specs.Prelude.{◌==◌, ◌&&◌, if◌then◌else◌}
use Rattle.std.proofs.lemmas.Bool.Decides.{nat_tests}
use Rattle.std.proofs.lemmas.List.{append-nil}
use Rattle.sctp_model.specs.numbers.Lists.{at}
use Rattle.sctp_model.specs.wire.Packet.{Packet}
use Rattle.sctp_model.specs.receiver.ReceiverView.{Handed, ReceiverView}
use Rattle.sctp_model.specs.sender.SenderView.{SenderView}
use Rattle.sctp_model.specs.world.Calls.{Call}
use Rattle.sctp_model.specs.end.EndView.{Draw, EndView}
use Rattle.sctp_model.specs.end.Opening.{opened}
use Rattle.sctp_model.specs.end.UserCalls.{SendAnswer, Ticket, Refused, NotOpen, send_answer, abort_answer, abort_leaves, shut, reset_call, reset_leaves, reset_there, told_leaves}
use Rattle.sctp_model.specs.world.World.{Side, A, B, Log, World, end_of, with_end, with_log, clock_of}
use Rattle.sctp_model.specs.world.Events.{message_told, Event, OpenBoth, At, Drawing, Connect, Build, Deliver, Foreign, Send, Abandon, Take, Shutdown, Abort, Outcome, Told, Reset, WasReset, Later, Moment}
use Rattle.sctp_model.specs.world.Steps.{Brings, FromBag, FromStranger, NoPacket, Step, OpensBoth, OpenRefused, TimePasses, Draws, Connects, ConnectRefused, BuildsOne, BuildsNone, PacketComes, IsAbsent, Sends, AbandonsOne, TakesOne, ShutsDown, AbortsIt, NoMemory, PacketCut, ResetsOne, TellsReset, TimeGoesOn, MomentComes}
use Rattle.sctp_safety.proofs.machine.OneEnd.{IsAt, at_end, at_log, at_packet, at_came, answer_of, at_verdict, abort_of, at_abort, both_ends}
use Rattle.sctp_safety.proofs.machine.DiagramRuns.{IsFresh}
use Rattle.sctp_outcomes.specs.Kept.{is_before, IsSound, KeepsLogs, AddsNumbers, SendNotes, TakeNotes}
use Rattle.sctp_outcomes.specs.Users.{same_side, sent_by, named_by, taken_by}
use Rattle.sctp_outcomes.proofs.AgedDates.{AreSound}
use Rattle.sctp_outcomes.proofs.logs.Built.{builds_add_numbers}
use Rattle.sctp_outcomes.proofs.logs.Called.{connect_keeps_logs, shutdown_keeps_logs, abort_keeps_logs, abandon_keeps_logs, send_gives_tickets, take_takes_one, reset_keeps_logs, told_keeps_logs}
use Rattle.sctp_outcomes.proofs.logs.Heard.{packets_keep_logs, cut_packets_keep_logs}
use Rattle.sctp_outcomes.proofs.logs.Passed.{moments_keep_logs}

-- ---- what an event shows to a user

-- nothing
pub record IsQuiet (x : Side) (n : ℕ) (e : Event) (o : Option Outcome) : Type 0 where
  pub taken : taken_by x n e o ≡ []
  pub sent : sent_by x e o ≡ []
  pub named : named_by x e o ≡ []

-- so it is of a packet that arrives
pub quiet_packet : (w : World) (e : Event) (s : Side) (p : Option Packet) → Brings w e s p → (x : Side) (n : ℕ) (o : Option Outcome) → IsQuiet x n e o
quiet_packet w e s p (FromBag _ _ _ _) x n o = record { taken = refl; sent = refl; named = refl }
quiet_packet w e s p (FromStranger _ _ _) x n o = record { taken = refl; sent = refl; named = refl }
quiet_packet w e s p (NoPacket _) x n o = record { taken = refl; sent = refl; named = refl }

-- and if an allocation failed
pub quiet_none : (e : Event) (x : Side) (n : ℕ) → IsQuiet x n e None
quiet_none (OpenBoth a b) x n = record { taken = refl; sent = refl; named = refl }
quiet_none (Later s m) x n = record { taken = refl; sent = refl; named = refl }
quiet_none (Moment s) x n = record { taken = refl; sent = refl; named = refl }
quiet_none (At m) x n = record { taken = refl; sent = refl; named = refl }
quiet_none (Drawing d) x n = record { taken = refl; sent = refl; named = refl }
quiet_none (Connect d) x n = record { taken = refl; sent = refl; named = refl }
quiet_none (Build s) x n = record { taken = refl; sent = refl; named = refl }
quiet_none (Deliver s k) x n = record { taken = refl; sent = refl; named = refl }
quiet_none (Foreign s p) x n = record { taken = refl; sent = refl; named = refl }
quiet_none (Send s c) x n = record { taken = refl; sent = refl; named = refl }
quiet_none (Abandon s k) x n = record { taken = refl; sent = refl; named = refl }
quiet_none (Take s k) x n = record { taken = refl; sent = refl; named = refl }
quiet_none (Reset s k) x n = record { taken = refl; sent = refl; named = refl }
quiet_none (WasReset s) x n = record { taken = refl; sent = refl; named = refl }
quiet_none (Shutdown s) x n = record { taken = refl; sent = refl; named = refl }
quiet_none (Abort s r) x n = record { taken = refl; sent = refl; named = refl }

-- ---- an endpoint

module _ (n : ℕ) where
  -- these messages were taken from the stream, and this many tickets given
  pub record Notes (e t : EndView) (hs : List Handed) (k : ℕ) : Type 0 where
    pub taken : t.receiver.taken n ≡ e.receiver.taken n ++ hs
    pub tickets : t.sender.tickets ≡ k + e.sender.tickets

  nothing : (e t : EndView) → t.receiver.taken ≡ e.receiver.taken → t.sender.tickets ≡ e.sender.tickets → Notes e t [] 0
  nothing e t taken tickets = record {
    taken = ap (λ (f : ℕ → List Handed). f n) taken ∙ sym (append-nil (e.receiver.taken n));
    tickets = (let same = tickets in omega (arith, same));
  }

  by_logs : (e t : EndView) → KeepsLogs e t → Notes e t [] 0
  by_logs e t k = nothing e t k.taken k.tickets

  by_numbers : (e t : EndView) → AddsNumbers e t → Notes e t [] 0
  by_numbers e t k = nothing e t k.taken k.tickets

  by_opening : (e : EndView) (own peer : Draw) → is_before e.phase ≡ true → IsSound e → Notes e (opened e.configuration own peer) [] 0
  by_opening e own peer before s =
      let u = s.bare before in nothing e (opened e.configuration own peer) (sym (ap (λ (r : ReceiverView). r.taken) u.receiver)) (sym (ap (λ (v : SenderView). v.tickets) u.sender))

  put_here : (f : ℕ → List Handed) (m : ℕ) (h : Handed) → at f m (f m ++ h ∷ []) n ≡ f n ++ (if n == m then h ∷ [] else [])
  put_here f m h = go (n == m) refl
    where
      go : (b : Bool) → (n == m) ≡ b → (if b then f m ++ h ∷ [] else f n) ≡ f n ++ (if b then h ∷ [] else [])
      go true is = let same : m ≡ n = grind (arith, nat_tests) in ap (λ (k : ℕ). f k ++ h ∷ []) same
      go false is = sym (append-nil (f n))

-- ---- a world

module _ (x : Side) (n : ℕ) where
  abbrev pub Noted : World → World → List Handed → ℕ → Type 0
  Noted w v hs k = Notes n (end_of w x) (end_of v x) hs k

  same_world : (w : World) → Noted w w [] 0
  same_world w = nothing n (end_of w x) (end_of w x) refl refl

  -- one endpoint acts, and nothing is reported to its user
  at_one : (w v : World) (s : Side) (t : EndView) (given : Option Packet) → IsAt w v s t given → Notes n (end_of w s) t [] 0 → Noted w v [] 0
  at_one w v s t given at same =
      both_ends (λ (y : Side) (e : EndView). Notes n (end_of w y) e [] 0) w v s t given at (λ y. nothing n (end_of w y) (end_of w y) refl refl) same x

  at_both : (w v : World) → Notes n w.a v.a [] 0 → Notes n w.b v.b [] 0 → Noted w v [] 0
  at_both w v a b = go x
    where
      go : (y : Side) → Notes n (end_of w y) (end_of v y) [] 0
      go A = a
      go B = b

  -- a ticket is given at an endpoint, and noted in its log
  gives_one : (w : World) (s : Side) (c : Call) (k : ℕ) (t : EndView) (l : Log) → t.receiver.taken ≡ (end_of w s).receiver.taken → t.sender.tickets ≡ 1 + (end_of w s).sender.tickets
      → Noted w (with_log (with_end w s t) s l) [] (length (sent_by x (Send s c) (Some (Told (Ticket k)))))
  gives_one w s c k t l taken tickets = go s x taken tickets
    where
      same : (e : EndView) → Notes n e e [] 0
      same e = nothing n e e refl refl

      more : (e : EndView) → t.receiver.taken ≡ e.receiver.taken → t.sender.tickets ≡ 1 + e.sender.tickets → Notes n e t [] 1
      more e taken tickets = record { taken = ap (λ (f : ℕ → List Handed). f n) taken ∙ sym (append-nil (e.receiver.taken n)); tickets = tickets }

      go : (s y : Side) → t.receiver.taken ≡ (end_of w s).receiver.taken → t.sender.tickets ≡ 1 + (end_of w s).sender.tickets
          → Notes n (end_of w y) (end_of (with_log (with_end w s t) s l) y) [] (length (sent_by y (Send s c) (Some (Told (Ticket k)))))
      go A A taken tickets = more w.a taken tickets
      go B B taken tickets = more w.b taken tickets
      go A B taken tickets = same w.b
      go B A taken tickets = same w.a

  by_send : (w : World) (s : Side) (c : Call) (a : SendAnswer) (t : EndView) (l : Log) → SendNotes a (end_of w s) t → Noted w (with_log (with_end w s t) s l) [] (length (sent_by x (Send s c) (Some (Told a))))
  by_send w s c (Ticket k) t l a = gives_one w s c k t l a.taken (let more = a.tickets in omega (arith, more))
  by_send w s c (Refused r) t l k = at_one w _ s t None (at_log w s t l) (by_logs n (end_of w s) t k)
  by_send w s c NotOpen t l k = at_one w _ s t None (at_log w s t l) (by_logs n (end_of w s) t k)

  -- a message is taken at an endpoint
  takes_one : (w : World) (s : Side) (m : ℕ) (h : Handed) (t : EndView) → t.receiver.taken ≡ at (end_of w s).receiver.taken m ((end_of w s).receiver.taken m ++ h ∷ []) → t.sender.tickets ≡ (end_of w s).sender.tickets
      → Noted w (with_end w s t) (if same_side s x && (n == m) then h ∷ [] else []) 0
  takes_one w s m h t is tickets = go s x is tickets
    where
      here : (e : EndView) → t.receiver.taken ≡ at e.receiver.taken m (e.receiver.taken m ++ h ∷ []) → t.sender.tickets ≡ e.sender.tickets → Notes n e t (if n == m then h ∷ [] else []) 0
      here e is tickets = record { taken = ap (λ (f : ℕ → List Handed). f n) is ∙ put_here n e.receiver.taken m h; tickets = (let same = tickets in omega (arith, same)) }

      go : (s y : Side) → t.receiver.taken ≡ at (end_of w s).receiver.taken m ((end_of w s).receiver.taken m ++ h ∷ []) → t.sender.tickets ≡ (end_of w s).sender.tickets
          → Notes n (end_of w y) (end_of (with_end w s t) y) (if same_side s y && (n == m) then h ∷ [] else []) 0
      go A A is tickets = here w.a is tickets
      go B B is tickets = here w.b is tickets
      go A B is tickets = nothing n w.b w.b refl refl
      go B A is tickets = nothing n w.a w.a refl refl

  by_take : (w : World) (s : Side) (m : ℕ) (h : Option Handed) (t : EndView) → TakeNotes h m (end_of w s) t → Noted w (with_end w s t) (taken_by x n (Take s m) (Some (message_told h))) 0
  by_take w s m (Some h) t a = takes_one w s m h t a.taken a.tickets
  by_take w s m None t k = at_one w (with_end w s t) s t None (at_end w s t) (by_logs n (end_of w s) t k)

  -- an event that shows nothing
  quietly : (w v : World) (e : Event) (o : Option Outcome) → IsQuiet x n e o → Noted w v [] 0 → Noted w v (taken_by x n e o) (length (sent_by x e o))
  quietly w v e o q same = subst (λ (k : ℕ). Noted w v (taken_by x n e o) k) (sym (ap length q.sent)) (subst (λ (hs : List Handed). Noted w v hs 0) (sym q.taken) same)

  pub step_noted : (w : World) (e : Event) (o : Option Outcome) (v : World) → IsFresh w → AreSound w → Step w e o v → Noted w v (taken_by x n e o) (length (sent_by x e o))
  step_noted w e o v f s (OpensBoth y z like may dx dy) = at_both w v (by_opening n w.a y z (ap is_before (f may).0) (s A)) (by_opening n w.b z y (ap is_before (f may).1) (s B))
  step_noted w e o v f s (OpenRefused y z closed) = same_world w
  step_noted w e o v f s (TimeGoesOn A m small) = at_both w v (nothing n w.a w.a refl refl) (nothing n w.b w.b refl refl)
  step_noted w e o v f s (TimeGoesOn B m small) = at_both w v (nothing n w.a w.a refl refl) (nothing n w.b w.b refl refl)
  step_noted w e o v f s (MomentComes y) = at_one w v y _ None (at_log w y _ _) (by_logs n (end_of w y) _ (moments_keep_logs (end_of w y) (clock_of w y) (s y)))
  step_noted w e o v f s (TimePasses m small) = at_both w v (by_logs n w.a v.a (moments_keep_logs w.a (max w.clock_a m) (s A))) (by_logs n w.b v.b (moments_keep_logs w.b (max w.clock_b m) (s B)))
  step_noted w e o v f s (Draws d dd) = at_both w v (nothing n w.a w.a refl refl) (nothing n w.b w.b refl refl)
  step_noted w e o v f s (Connects d dd answer) = at_both w v (by_logs n w.a v.a (connect_keeps_logs w.a w.clock_a d (s A) answer)) (nothing n w.b w.b refl refl)
  step_noted w e o v f s (ConnectRefused d answer) = same_world w
  step_noted w e o v f s (BuildsOne y c cs t b) = at_one w v y t _ (at_packet w y t _) (by_numbers n (end_of w y) t (builds_add_numbers (end_of w y) (clock_of w y) (c ∷ cs) t (s y) b))
  step_noted w e o v f s (BuildsNone y t b) = at_one w v y t None (at_end w y t) (by_numbers n (end_of w y) t (builds_add_numbers (end_of w y) (clock_of w y) [] t (s y) b))
  step_noted w e o v f s (PacketComes _ y p t d brings received) =
      quietly w v e o (quiet_packet w e y p brings x n o) (at_one w v y t (answer_of d) (at_verdict w y t d) (by_logs n (end_of w y) t (packets_keep_logs (end_of w y) (clock_of w y) w.draw p t d (s y) received)))
  step_noted w e o v f s (PacketCut _ y p t brings cut) =
      quietly w v e o (quiet_packet w e y p brings x n o) (at_one w v y t None (at_came w y t) (by_logs n (end_of w y) t (cut_packets_keep_logs (end_of w y) (clock_of w y) w.draw p t (s y) cut)))
  step_noted w e o v f s (IsAbsent y k none) = same_world w
  step_noted w e o v f s (Sends y c) = by_send w y c (send_answer (end_of w y) c) _ _ (send_gives_tickets (end_of w y) c (s y))
  step_noted w e o v f s (AbandonsOne y k) = at_one w v y _ None (at_log w y _ _) (by_logs n (end_of w y) _ (abandon_keeps_logs (end_of w y) k (s y)))
  step_noted w e o v f s (TakesOne y m h t takes) = by_take w y m h t (take_takes_one (end_of w y) m h t (s y) takes)
  step_noted w e o v f s (ResetsOne y m) =
      at_one w v y (reset_leaves (reset_call (end_of w y) m) (end_of w y) m) None (at_end w y _) (by_logs n (end_of w y) _ (reset_keeps_logs (end_of w y) m (s y)))
  step_noted w e o v f s (TellsReset y) = at_one w v y (told_leaves (reset_there (end_of w y)) (end_of w y)) None (at_end w y _) (by_logs n (end_of w y) _ (told_keeps_logs (end_of w y) (s y)))
  step_noted w e o v f s (ShutsDown y) = at_one w v y (shut (end_of w y)) None (at_end w y _) (by_logs n (end_of w y) _ (shutdown_keeps_logs (end_of w y) (s y)))
  step_noted w e o v f s (AbortsIt y why) =
      let a = abort_answer (end_of w y) why in
      at_one w v y (abort_leaves a (end_of w y)) (abort_of a) (at_abort w y _ a) (by_logs n (end_of w y) _ (abort_keeps_logs (end_of w y) a (s y)))
  step_noted w e o v f s (NoMemory _ calm) = quietly w v e o (quiet_none e x n) (same_world w)
