-- Over a whole run: what a user took, handed in and named, and the time, are what both endpoints and both logs have.
use Rattle.std.proofs.Common.{◌≡◌, ℕ, zero, suc, ◌+◌, ◌⊎◌, max, Bool, true, false, List, [], ◌∷◌, ◌++◌, length, length-append, slice_get, Option, Some, None, inl, inr, refl, sym, subst, ap, ◌∙◌, arith}
use Rattle.std.specs.Prelude.{if◌then◌else◌}
use Rattle.std.proofs.lemmas.List.{append-nil, append_assoc}
use Rattle.sctp_model.specs.numbers.Lists.{Has, item_at}
use Rattle.sctp_model.specs.receiver.ReceiverView.{Handed}
use Rattle.sctp_model.specs.world.Calls.{Call}
use Rattle.sctp_model.specs.end.UserCalls.{NotOpen, send_answer, answer_for, is_established}
use Rattle.sctp_model.specs.end.Closing.{hears}
use Rattle.sctp_model.specs.sender.Queueing.{Refusal, refusal}
use Rattle.sctp_model.specs.world.World.{Side, A, B, World, end_of, log_of}
use Rattle.sctp_model.specs.world.Events.{Event, Send, Outcome, Told}
use Rattle.sctp_model.specs.world.Steps.{Step, OpensBoth, OpenRefused, TimePasses, Draws, Connects, ConnectRefused, BuildsOne, BuildsNone, PacketComes, IsAbsent, Sends, AbandonsOne, TakesOne, ShutsDown, AbortsIt, NoMemory, PacketCut, ResetsOne, TellsReset, PassesThrough, last_of, TimeGoesOn, MomentComes}
use Rattle.sctp_safety.proofs.machine.DiagramRuns.{IsFresh, step_onward}
use Rattle.sctp_outcomes.specs.Users.{same_side, Sent, sent_by, sent, named_by, named, taken_by, taken, time_by, time}
use Rattle.sctp_outcomes.proofs.AgedDates.{AreSound, step_goes_on}
use Rattle.sctp_outcomes.proofs.users.Noted.{quiet_packet, quiet_none, Notes, step_noted}
use Rattle.sctp_outcomes.proofs.users.Accepted.{calls_of, IsLogged, step_logged}

-- ---- tickets

-- these messages have the tickets after this one, one after the other
abbrev pub AreNumbered : ℕ → List Sent → Type 0
AreNumbered k [] = Unit {0}
AreNumbered k (s ∷ ss) = (s.ticket ≡ suc k) × AreNumbered (suc k) ss

numbered_on : (k : ℕ) (xs ys : List Sent) → AreNumbered k xs → AreNumbered (length xs + k) ys → AreNumbered k (xs ++ ys)
numbered_on k [] ys first second = subst (λ (n : ℕ). AreNumbered n ys) (let same : 0 + k ≡ k = omega arith in same) second
numbered_on k (x ∷ xs) ys (here, first) second =
    (here, numbered_on (suc k) xs ys first (subst (λ (n : ℕ). AreNumbered n ys) (let same : suc (length xs) + k ≡ length xs + suc k = omega arith in same) second))

-- the answer to `send` is the next ticket, or none
next_ticket : (w : World) (s : Side) (c : Call) (x : Side) → AreNumbered (end_of w x).sender.tickets (sent_by x (Send s c) (Some (Told (send_answer (end_of w s) c))))
next_ticket w s c x = by_state (hears is_established (end_of w s).phase)
  where
    none : (b : Bool) (k : ℕ) → AreNumbered k (if b then [] else [])
    none true k = tt
    none false k = tt

    given : (s x : Side) → AreNumbered (end_of w x).sender.tickets (if same_side s x then record { ticket = suc (end_of w s).sender.tickets; call = c } ∷ [] else [])
    given A A = (refl, tt)
    given A B = tt
    given B A = tt
    given B B = (refl, tt)

    by_reason : (o : Option Refusal) → AreNumbered (end_of w x).sender.tickets (sent_by x (Send s c) (Some (Told (answer_for (end_of w s) o))))
    by_reason None = given s x
    by_reason (Some r) = tt

    by_state : (b : Bool) → AreNumbered (end_of w x).sender.tickets
        (sent_by x (Send s c) (Some (Told (if b then answer_for (end_of w s) (refusal (end_of w s).sender c.lane.stream c.bytes) else NotOpen))))
    by_state true = by_reason (refusal (end_of w s).sender c.lane.stream c.bytes)
    by_state false = tt

step_numbered : (x : Side) (w : World) (e : Event) (o : Option Outcome) (v : World) → Step w e o v → AreNumbered (end_of w x).sender.tickets (sent_by x e o)
step_numbered x w e o v (OpensBoth y z like may dx dy) = tt
step_numbered x w e o v (OpenRefused y z closed) = tt
step_numbered x w e o v (TimeGoesOn y m small) = tt
step_numbered x w e o v (MomentComes y) = tt
step_numbered x w e o v (TimePasses m small) = tt
step_numbered x w e o v (Draws d dd) = tt
step_numbered x w e o v (Connects d dd answer) = tt
step_numbered x w e o v (ConnectRefused d answer) = tt
step_numbered x w e o v (BuildsOne y c cs t b) = tt
step_numbered x w e o v (BuildsNone y t b) = tt
step_numbered x w e o v (PacketComes _ y p t d brings received) = subst (λ (ss : List Sent). AreNumbered (end_of w x).sender.tickets ss) (sym (quiet_packet w e y p brings x 0 o).sent) tt
step_numbered x w e o v (PacketCut _ y p t brings cut) = subst (λ (ss : List Sent). AreNumbered (end_of w x).sender.tickets ss) (sym (quiet_packet w e y p brings x 0 o).sent) tt
step_numbered x w e o v (IsAbsent y k none) = tt
step_numbered x w e o v (Sends y c) = next_ticket w y c x
step_numbered x w e o v (AbandonsOne y k) = tt
step_numbered x w e o v (TakesOne y m h t takes) = tt
step_numbered x w e o v (ResetsOne y m) = tt
step_numbered x w e o v (TellsReset y) = tt
step_numbered x w e o v (ShutsDown y) = tt
step_numbered x w e o v (AbortsIt y why) = tt
step_numbered x w e o v (NoMemory _ other) = subst (λ (ss : List Sent). AreNumbered (end_of w x).sender.tickets ss) (sym (quiet_none e x 0).sent) tt

-- ---- a run

-- what a run adds for one side, and for one stream
pub record Adds (x : Side) (n : ℕ) (w v : World) (ss : List Sent) (ts : List ℕ) (hs : List Handed) (now : ℕ) : Type 0 where
  pub noted : Notes n (end_of w x) (end_of v x) hs (length ss)
  pub logged : IsLogged x w v ss ts now
  pub numbered : AreNumbered (end_of w x).sender.tickets ss

module _ (x : Side) (n : ℕ) where
  adds_nothing : (w : World) → Adds x n w w [] [] [] 0
  adds_nothing w = record {
    noted = record { taken = sym (append-nil ((end_of w x).receiver.taken n)); tickets = omega arith };
    logged = record { calls = sym (append-nil (log_of w x).calls); named = λ t on. inl on; clock = omega arith };
    numbered = tt;
  }

  calls_on : (xs ys : List Sent) → calls_of (xs ++ ys) ≡ calls_of xs ++ calls_of ys
  calls_on [] ys = refl
  calls_on (s ∷ xs) ys = ap (λ (cs : List Call). s.call ∷ cs) (calls_on xs ys)

  has_behind : (xs ys : List ℕ) (t : ℕ) → Has ys t → Has (xs ++ ys) t
  has_behind [] ys t has = has
  has_behind (y ∷ xs) ys t has = inr (has_behind xs ys t has)

  has_ahead : (xs ys : List ℕ) (t : ℕ) → Has xs t → Has (xs ++ ys) t
  has_ahead [] ys t has = absurd has
  has_ahead (y ∷ xs) ys t (inl own) = inl own
  has_ahead (y ∷ xs) ys t (inr has) = inr (has_ahead xs ys t has)

  adds_on : (w v u : World) (ss zs : List Sent) (ts ks : List ℕ) (hs gs : List Handed) (now later : ℕ) → Adds x n w v ss ts hs now → Adds x n v u zs ks gs later
      → Adds x n w u (ss ++ zs) (ts ++ ks) (hs ++ gs) (max now later)
  adds_on w v u ss zs ts ks hs gs now later a b = record {
    noted = record {
      taken = b.noted.taken ∙ ap (λ (xs : List Handed). xs ++ gs) a.noted.taken ∙ append_assoc ((end_of w x).receiver.taken n) hs gs;
      tickets = (let p = a.noted.tickets in let q = b.noted.tickets in let l = length-append ss zs in omega (arith, p, q, l));
    };
    logged = record {
      calls = b.logged.calls ∙ ap (λ (cs : List Call). cs ++ calls_of zs) a.logged.calls ∙ append_assoc (log_of w x).calls (calls_of ss) (calls_of zs)
          ∙ ap (λ (cs : List Call). (log_of w x).calls ++ cs) (sym (calls_on ss zs));
      named = λ t on. by_name t (b.logged.named t on);
      clock = (let p = a.logged.clock in let q = b.logged.clock in omega (arith, p, q));
    };
    numbered = numbered_on (end_of w x).sender.tickets ss zs a.numbered (subst (λ (k : ℕ). AreNumbered k zs) a.noted.tickets b.numbered);
  }
    where
      by_name : (t : ℕ) → ((log_of v x).named t ≡ true) ⊎ Has ks t → ((log_of w x).named t ≡ true) ⊎ Has (ts ++ ks) t
      by_name t (inr has) = inr (has_behind ts ks t has)
      by_name t (inl on) = before (a.logged.named t on)
        where
          before : ((log_of w x).named t ≡ true) ⊎ Has ts t → ((log_of w x).named t ≡ true) ⊎ Has (ts ++ ks) t
          before (inl on) = inl on
          before (inr has) = inr (has_ahead ts ks t has)

  pub run_adds : (w : World) (es : List Event) (os : List (Option Outcome)) (vs : List World) → PassesThrough w es os vs → IsFresh w → AreSound w
      → Adds x n w (last_of w vs) (sent x es os) (named x es os) (taken x n es os) (time x es os)
  run_adds w [] [] [] passes fresh sound = adds_nothing w
  run_adds w (e ∷ es) (o ∷ os) (v ∷ vs) (step, passes) fresh sound =
      let on = step_goes_on w e o v fresh sound step in
      let here : Adds x n w v (sent_by x e o) (named_by x e o) (taken_by x n e o) (time_by x e o) =
      record { noted = step_noted x n w e o v fresh sound step; logged = step_logged x w e o v step; numbered = step_numbered x w e o v step } in
      adds_on w v (last_of v vs) _ _ _ _ _ _ _ _ here (run_adds v es os vs passes (step_onward w e o v fresh step).fresh (λ y. (on y).sound))
  run_adds w [] (o ∷ os) vs passes fresh sound = absurd passes
  run_adds w [] [] (v ∷ vs) passes fresh sound = absurd passes
  run_adds w (e ∷ es) [] vs passes fresh sound = absurd passes
  run_adds w (e ∷ es) (o ∷ os) [] passes fresh sound = absurd passes

-- ---- messages by ticket

has_place : (k : ℕ) (ss : List Sent) (s : Sent) → AreNumbered k ss → Has ss s → (j : ℕ) × (s.ticket ≡ suc (k + j)) × (slice_get (calls_of ss) j ≡ Some s.call)
has_place k [] s numbered has = absurd has
has_place k (x ∷ ss) s (first, rest) (inl own) =
    (0, subst (λ (y : Sent). y.ticket ≡ suc (k + 0)) own (omega (arith, first)), ap (λ (y : Sent). Some y.call) own)
has_place k (x ∷ ss) s (first, rest) (inr has) =
    let p = has_place (suc k) ss s rest has in let at = p.1 in (suc p.0, omega (arith, at), p.2)

one_sent : (s : Sent) (t : ℕ) (c : Call) → s.ticket ≡ t → s.call ≡ c → s ≡ record { ticket = t; call = c }
one_sent s t c ticket call = ap (λ (k : ℕ). record { ticket = k; call = s.call }) ticket ∙ ap (λ (d : Call). record { ticket = t; call = d }) call

place_has : (k : ℕ) (ss : List Sent) (j : ℕ) (c : Call) → AreNumbered k ss → slice_get (calls_of ss) j ≡ Some c → Has ss (record { ticket = suc (k + j); call = c })
place_has k [] j c numbered there = absurd (cc)
place_has k (x ∷ ss) zero c (first, rest) there = inl (one_sent x (suc (k + 0)) c (omega (arith, first)) (cc there))
place_has k (x ∷ ss) (suc j) c (first, rest) there =
    inr (subst (λ (t : ℕ). Has ss (record { ticket = t; call = c })) (let same : suc (suc k + j) ≡ suc (k + suc j) = omega arith in same) (place_has (suc k) ss j c rest there))

-- a message that was accepted is the call with its ticket
pub call_of_sent : (ss : List Sent) (s : Sent) → AreNumbered 0 ss → Has ss s → item_at (calls_of ss) s.ticket ≡ Some s.call
call_of_sent ss s numbered has =
    let p = has_place 0 ss s numbered has in
    let at : s.ticket ≡ suc p.0 = (let q = p.1 in omega (arith, q)) in
    subst (λ (t : ℕ). item_at (calls_of ss) t ≡ Some s.call) (sym at) p.2

-- and each call is of one
pub sent_of_call : (ss : List Sent) (t : ℕ) (c : Call) → AreNumbered 0 ss → item_at (calls_of ss) t ≡ Some c → Has ss (record { ticket = t; call = c })
sent_of_call ss zero c numbered there = absurd (cc)
sent_of_call ss (suc t) c numbered there =
    subst (λ (k : ℕ). Has ss (record { ticket = k; call = c })) (let same : suc (0 + t) ≡ suc t = omega arith in same) (place_has 0 ss t c numbered there)
