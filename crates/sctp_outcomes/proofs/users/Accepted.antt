-- What each event adds to a user's log: accepted messages, named tickets, the time.
use Rattle.std.proofs.Common.{◌≡◌, ℕ, ◌⊎◌, max, Bool, true, false, List, [], ◌∷◌, ◌++◌, map, Option, Some, None, inl, inr, refl, sym, subst, ap, ◌∙◌, arith}
use Rattle.std.specs.Prelude.{◌==◌, if◌then◌else◌}
use Rattle.std.proofs.lemmas.Bool.Decides.{nat_tests}
use Rattle.std.proofs.lemmas.List.{append-nil}
use Rattle.sctp_model.specs.numbers.Lists.{Has, at}
use Rattle.sctp_model.specs.wire.Packet.{Packet}
use Rattle.sctp_model.specs.world.Calls.{Call}
use Rattle.sctp_model.specs.sender.Abandoning.{AbandonAnswer, gives_up}
use Rattle.sctp_model.specs.end.EndView.{EndView}
use Rattle.sctp_model.specs.end.Strays.{Verdict, Taken, Dropped, Answer}
use Rattle.sctp_model.specs.end.UserCalls.{SendAnswer, Ticket, Refused, NotOpen, send_answer, AbortAnswer, Aborts, NoPeer, TooLong, abort_answer, abandons}
use Rattle.sctp_model.specs.world.World.{Side, A, B, Log, World, end_of, log_of, with_end, with_packet, with_log, came, logged_one, clock_of, with_clock, Setup, start}
use Rattle.sctp_model.specs.world.Events.{Event, OpenBoth, At, Drawing, Connect, Build, Deliver, Foreign, Send, Abandon, Take, Shutdown, Abort, Outcome, Told, Fate, with_verdict, with_abort, Reset, WasReset, Later, Moment}
use Rattle.sctp_model.specs.world.Steps.{accepted, named_at, Brings, FromBag, FromStranger, NoPacket, Step, OpensBoth, OpenRefused, TimePasses, Draws, Connects, ConnectRefused, BuildsOne, BuildsNone, PacketComes, IsAbsent, Sends, AbandonsOne, TakesOne, ShutsDown, AbortsIt, NoMemory, PacketCut, ResetsOne, TellsReset, TimeGoesOn, MomentComes}
use Rattle.sctp_outcomes.specs.Users.{same_side, Sent, sent_by, named_by, time_by, given_by}
use Rattle.sctp_outcomes.proofs.users.Noted.{IsQuiet, quiet_packet, quiet_none}

-- the calls of these messages
abbrev pub calls_of : List Sent → List Call
calls_of ss = map (λ (s : Sent). s.call) ss

-- These messages were accepted at an endpoint, these tickets named, and this time given.
pub record IsLogged (x : Side) (w v : World) (ss : List Sent) (ts : List ℕ) (now : ℕ) : Type 0 where
  pub calls : (log_of v x).calls ≡ (log_of w x).calls ++ calls_of ss
  pub named : (t : ℕ) → (log_of v x).named t ≡ true → ((log_of w x).named t ≡ true) ⊎ Has ts t
  pub clock : clock_of v x ≡ max (clock_of w x) now

-- a log with as much
record AddsTo (l k : Log) (ss : List Sent) (ts : List ℕ) : Type 0 where
  calls : k.calls ≡ l.calls ++ calls_of ss
  named : (t : ℕ) → k.named t ≡ true → (l.named t ≡ true) ⊎ Has ts t

adds_nothing : (l k : Log) → k.calls ≡ l.calls → k.named ≡ l.named → AddsTo l k [] []
adds_nothing l k calls named = record {
  calls = calls ∙ sym (append-nil l.calls);
  named = λ t on. inl (subst (λ (f : ℕ → Bool). f t ≡ true) named on);
}

named_one : (l : Log) (t k : ℕ) → at l.named t true k ≡ true → (l.named k ≡ true) ⊎ Has (t ∷ []) k
named_one l t k on = go (k == t) refl on
  where
    go : (b : Bool) → (k == t) ≡ b → (if b then true else l.named k) ≡ true → (l.named k ≡ true) ⊎ Has (t ∷ []) k
    go true is here = inr (inl (let same : t ≡ k = grind (arith, nat_tests) in same))
    go false is here = inl here

named_if : (l : Log) (b : Bool) (t k : ℕ) → (if b then at l.named t true else l.named) k ≡ true → (l.named k ≡ true) ⊎ Has (if b then t ∷ [] else []) k
named_if l true t k on = named_one l t k on
named_if l false t k on = inl on

-- nothing either way
abbrev no_sent : List Sent
no_sent = []

abbrev no_named : List ℕ
no_named = []

no_messages : (b : Bool) → (if b then no_sent else no_sent) ≡ no_sent
no_messages true = refl
no_messages false = refl

no_tickets : (b : Bool) → (if b then no_named else no_named) ≡ no_named
no_tickets true = refl
no_tickets false = refl

module _ (x : Side) where
  by_log : (w v : World) (ss : List Sent) (ts : List ℕ) (now : ℕ) → AddsTo (log_of w x) (log_of v x) ss ts → clock_of v x ≡ max (clock_of w x) now → IsLogged x w v ss ts now
  by_log w v ss ts now a clock = record { calls = a.calls; named = a.named; clock = clock }

  -- both logs stay, but for the order of abandoning, and so do the clocks
  calm_logs : (w v : World) → AddsTo w.log_a v.log_a [] [] → AddsTo w.log_b v.log_b [] [] → v.clock_a ≡ w.clock_a → v.clock_b ≡ w.clock_b → IsLogged x w v [] [] 0
  calm_logs w v a b clock_a clock_b = by_log w v [] [] 0 (go x) (stays x)
    where
      stays : (y : Side) → clock_of v y ≡ max (clock_of w y) 0
      stays A = omega (arith, clock_a)
      stays B = omega (arith, clock_b)

      go : (y : Side) → AddsTo (log_of w y) (log_of v y) [] []
      go A = a
      go B = b

  calm : (w v : World) → v.log_a ≡ w.log_a → v.log_b ≡ w.log_b → v.clock_a ≡ w.clock_a → v.clock_b ≡ w.clock_b → IsLogged x w v [] [] 0
  calm w v a b clock_a clock_b =
      calm_logs w v (adds_nothing w.log_a v.log_a (ap (λ (l : Log). l.calls) a) (ap (λ (l : Log). l.named) a))
      (adds_nothing w.log_b v.log_b (ap (λ (l : Log). l.calls) b) (ap (λ (l : Log). l.named) b)) clock_a clock_b

  calm_end : (w : World) (s : Side) (t : EndView) → IsLogged x w (with_end w s t) [] [] 0
  calm_end w A t = calm w (with_end w A t) refl refl refl refl
  calm_end w B t = calm w (with_end w B t) refl refl refl refl

  calm_packet : (w : World) (s : Side) (t : EndView) (p : Packet) → IsLogged x w (with_packet (with_end w s t) s p) [] [] 0
  calm_packet w A t p = calm w (with_packet (with_end w A t) A p) refl refl refl refl
  calm_packet w B t p = calm w (with_packet (with_end w B t) B p) refl refl refl refl

  calm_came : (w : World) (s : Side) (t : EndView) → IsLogged x w (came w s t) [] [] 0
  calm_came w A t = calm_logs w (came w A t) (adds_nothing w.log_a (came w A t).log_a refl refl) (adds_nothing w.log_b w.log_b refl refl) refl refl
  calm_came w B t = calm_logs w (came w B t) (adds_nothing w.log_a w.log_a refl refl) (adds_nothing w.log_b (came w B t).log_b refl refl) refl refl

  calm_verdict : (w : World) (s : Side) (t : EndView) (d : Verdict) → IsLogged x w (with_verdict (came w s t) s d) [] [] 0
  calm_verdict w s t Taken = calm_came w s t
  calm_verdict w s t (Dropped n) = calm_came w s t
  calm_verdict w A t (Answer p) = calm_logs w (with_verdict (came w A t) A (Answer p)) (adds_nothing w.log_a (came w A t).log_a refl refl) (adds_nothing w.log_b w.log_b refl refl) refl refl
  calm_verdict w B t (Answer p) = calm_logs w (with_verdict (came w B t) B (Answer p)) (adds_nothing w.log_a w.log_a refl refl) (adds_nothing w.log_b (came w B t).log_b refl refl) refl refl

  calm_abort : (w : World) (s : Side) (t : EndView) (a : AbortAnswer) → IsLogged x w (with_abort (with_end w s t) s a) [] [] 0
  calm_abort w s t (Aborts p) = calm_packet w s t p
  calm_abort w s t NoPeer = calm_end w s t
  calm_abort w s t TooLong = calm_end w s t

  -- the log of one endpoint alone changes
  one_log : (w : World) (s : Side) (t : EndView) (l : Log) (ss : List Sent) (ts : List ℕ) → AddsTo (log_of w s) l ss ts
      → IsLogged x w (with_log (with_end w s t) s l) (if same_side s x then ss else []) (if same_side s x then ts else []) 0
  one_log w s t l ss ts a = go s x a
    where
      go : (s y : Side) → AddsTo (log_of w s) l ss ts → IsLogged y w (with_log (with_end w s t) s l) (if same_side s y then ss else []) (if same_side s y then ts else []) 0
      go A A a = record { calls = a.calls; named = a.named; clock = omega arith }
      go B B a = record { calls = a.calls; named = a.named; clock = omega arith }
      go A B a = record { calls = sym (append-nil w.log_b.calls); named = λ k on. inl on; clock = omega arith }
      go B A a = record { calls = sym (append-nil w.log_a.calls); named = λ k on. inl on; clock = omega arith }

  no_ticket : (w : World) (s : Side) (t : EndView) (l : Log) (ss : List Sent) → AddsTo (log_of w s) l ss [] → IsLogged x w (with_log (with_end w s t) s l) (if same_side s x then ss else []) [] 0
  no_ticket w s t l ss a = subst (λ (ts : List ℕ). IsLogged x w (with_log (with_end w s t) s l) (if same_side s x then ss else []) ts 0) (no_tickets (same_side s x)) (one_log w s t l ss [] a)

  no_message : (w : World) (s : Side) (t : EndView) (l : Log) (ts : List ℕ) → AddsTo (log_of w s) l [] ts → IsLogged x w (with_log (with_end w s t) s l) [] (if same_side s x then ts else []) 0
  no_message w s t l ts a = subst (λ (ss : List Sent). IsLogged x w (with_log (with_end w s t) s l) ss (if same_side s x then ts else []) 0) (no_messages (same_side s x)) (one_log w s t l [] ts a)

  -- that log stays, but for the order of abandoning
  calm_log : (w : World) (s : Side) (t : EndView) (l : Log) → AddsTo (log_of w s) l [] [] → IsLogged x w (with_log (with_end w s t) s l) [] [] 0
  calm_log w s t l a = subst (λ (ss : List Sent). IsLogged x w (with_log (with_end w s t) s l) ss [] 0) (no_messages (same_side s x)) (no_ticket w s t l [] a)

  -- the clock of one endpoint goes on
  clock_goes : (w : World) (s : Side) (m : ℕ) → IsLogged x w (with_clock w s m) [] [] (if same_side s x then m else 0)
  clock_goes w s m = go s x
    where
      go : (s y : Side) → IsLogged y w (with_clock w s m) [] [] (if same_side s y then m else 0)
      go A A = record { calls = sym (append-nil w.log_a.calls); named = λ k on. inl on; clock = refl }
      go A B = record { calls = sym (append-nil w.log_b.calls); named = λ k on. inl on; clock = omega arith }
      go B A = record { calls = sym (append-nil w.log_a.calls); named = λ k on. inl on; clock = omega arith }
      go B B = record { calls = sym (append-nil w.log_b.calls); named = λ k on. inl on; clock = refl }

  by_answer : (w : World) (s : Side) (c : Call) (t : EndView) (a : SendAnswer) → IsLogged x w (with_log (with_end w s t) s (accepted w s a c)) (sent_by x (Send s c) (Some (Told a))) [] 0
  by_answer w s c t (Ticket k) = no_ticket w s t (accepted w s (Ticket k) c) (record { ticket = k; call = c } ∷ []) (record { calls = refl; named = λ j on. inl on })
  by_answer w s c t (Refused r) = subst (λ (ss : List Sent). IsLogged x w (with_log (with_end w s t) s (log_of w s)) ss [] 0) (no_messages (same_side s x)) (no_ticket w s t (log_of w s) [] (adds_nothing (log_of w s) (log_of w s) refl refl))
  by_answer w s c t NotOpen = subst (λ (ss : List Sent). IsLogged x w (with_log (with_end w s t) s (log_of w s)) ss [] 0) (no_messages (same_side s x)) (no_ticket w s t (log_of w s) [] (adds_nothing (log_of w s) (log_of w s) refl refl))

  by_name : (w : World) (s : Side) (k : ℕ) (t : EndView) (a : AbandonAnswer) → IsLogged x w (with_log (with_end w s t) s (named_at (logged_one w s k t) a k)) [] (named_by x (Abandon s k) (Some (Fate a))) 0
  by_name w s k t a = no_message w s t (named_at (logged_one w s k t) a k) (given_by a k) (record { calls = sym (append-nil (log_of w s).calls); named = named_if (log_of w s) (gives_up a) k })

  -- an event that shows nothing, if the time stays
  quietly : (w v : World) (e : Event) (o : Option Outcome) → IsQuiet x 0 e o → time_by x e o ≡ 0 → IsLogged x w v [] [] 0 → IsLogged x w v (sent_by x e o) (named_by x e o) (time_by x e o)
  quietly w v e o q same h =
      subst (λ (k : ℕ). IsLogged x w v (sent_by x e o) (named_by x e o) k) (sym same)
      (subst (λ (ts : List ℕ). IsLogged x w v (sent_by x e o) ts 0) (sym q.named) (subst (λ (ss : List Sent). IsLogged x w v ss [] 0) (sym q.sent) h))

-- no packet gives the time
timeless : (x : Side) (w : World) (e : Event) (s : Side) (p : Option Packet) → Brings w e s p → (o : Option Outcome) → time_by x e o ≡ 0
timeless x w e s p (FromBag _ _ _ _) o = refl
timeless x w e s p (FromStranger _ _ _) o = refl
timeless x w e s p (NoPacket _) o = refl

-- nor does what wanted memory
no_time : (x : Side) (e : Event) → time_by x e None ≡ 0
no_time x (OpenBoth a b) = refl
no_time x (Later s m) = refl
no_time x (Moment s) = refl
no_time x (At m) = refl
no_time x (Drawing d) = refl
no_time x (Connect d) = refl
no_time x (Build s) = refl
no_time x (Deliver s k) = refl
no_time x (Foreign s p) = refl
no_time x (Send s c) = refl
no_time x (Abandon s k) = refl
no_time x (Take s k) = refl
no_time x (Reset s k) = refl
no_time x (WasReset s) = refl
no_time x (Shutdown s) = refl
no_time x (Abort s r) = refl

pub step_logged : (x : Side) (w : World) (e : Event) (o : Option Outcome) (v : World) → Step w e o v → IsLogged x w v (sent_by x e o) (named_by x e o) (time_by x e o)
step_logged x w e o v (OpensBoth y z like may dx dy) = calm x w v refl refl refl refl
step_logged x w e o v (OpenRefused y z closed) = calm x w w refl refl refl refl
step_logged x w e o v (TimeGoesOn y m small) = clock_goes x w y m
step_logged x w e o v (MomentComes y) = calm_log x w y _ _ (adds_nothing (log_of w y) _ refl refl)
step_logged x w e o v (TimePasses m small) = by_log x w v [] [] m (go x) (goes x)
  where
    goes : (y : Side) → clock_of v y ≡ max (clock_of w y) m
    goes A = refl
    goes B = refl

    go : (y : Side) → AddsTo (log_of w y) (log_of v y) [] []
    go A = adds_nothing w.log_a v.log_a refl refl
    go B = adds_nothing w.log_b v.log_b refl refl
step_logged x w e o v (Draws d dd) = calm x w v refl refl refl refl
step_logged x w e o v (Connects d dd answer) = calm x w v refl refl refl refl
step_logged x w e o v (ConnectRefused d answer) = calm x w w refl refl refl refl
step_logged x w e o v (BuildsOne y c cs t b) = calm_packet x w y t _
step_logged x w e o v (BuildsNone y t b) = calm_end x w y t
step_logged x w e o v (PacketComes _ y p t d brings received) = quietly x w v e o (quiet_packet w e y p brings x 0 o) (timeless x w e y p brings o) (calm_verdict x w y t d)
step_logged x w e o v (PacketCut _ y p t brings cut) = quietly x w v e o (quiet_packet w e y p brings x 0 o) (timeless x w e y p brings o) (calm_came x w y t)
step_logged x w e o v (IsAbsent y k none) = calm x w w refl refl refl refl
step_logged x w e o v (Sends y c) = by_answer x w y c _ (send_answer (end_of w y) c)
step_logged x w e o v (AbandonsOne y k) = by_name x w y k _ (abandons (end_of w y) k)
step_logged x w e o v (TakesOne y m h t takes) = calm_end x w y t
step_logged x w e o v (ResetsOne y m) = calm_end x w y _
step_logged x w e o v (TellsReset y) = calm_end x w y _
step_logged x w e o v (ShutsDown y) = calm_end x w y _
step_logged x w e o v (AbortsIt y why) = calm_abort x w y _ (abort_answer (end_of w y) why)
step_logged x w e o v (NoMemory _ other) = quietly x w v e o (quiet_none e x 0) (no_time x e) (calm x w w refl refl refl refl)

-- both clocks begin at 0
pub clocks_begin : (s : Setup) (x : Side) → clock_of (start s) x ≡ 0
clocks_begin s A = refl
clocks_begin s B = refl
