-- Over a run: what was reported to a user of resets, and how they part the messages.
use Rattle.std.proofs.Common.{◌≡◌, ℕ, suc, ◌+◌, ◌≤◌, ◌⊎◌, ◌==◌, ◌&&◌, Bool, true, false, List, [], ◌∷◌, ◌++◌, length, length-append, Option, Some, None, inl, inr, refl, sym, subst, ap, ◌∙◌, arith, append-nil}
use Rattle.std.specs.Prelude.{if◌then◌else◌}
use Rattle.std.proofs.lemmas.Bool.Decides.{nat_tests}
use Rattle.std.proofs.lemmas.List.{append_assoc}
use Rattle.sctp_model.specs.numbers.Lists.{Has, item_at}
use Rattle.sctp_model.specs.messages.Plan.{Message, message_at}
use Rattle.sctp_model.specs.messages.Format.{Lane}
use Rattle.sctp_model.specs.receiver.ReceiverView.{handed, Handed}
use Rattle.sctp_model.specs.sender.Outgoing.{is_sending}
use Rattle.sctp_model.specs.sender.SenderView.{SenderView}
use Rattle.sctp_model.specs.sender.Queueing.{Refusal, refusal}
use Rattle.sctp_model.specs.world.Calls.{Call}
use Rattle.sctp_model.specs.end.Configured.{IsConfiguration}
use Rattle.sctp_model.specs.end.Closing.{hears}
use Rattle.sctp_model.specs.end.UserCalls.{NotOpen, answer_for, is_established}
use Rattle.sctp_model.specs.world.World.{Side, A, B, other, World, end_of, log_of, Setup, configuration_of}
use Rattle.sctp_model.specs.world.Events.{Event, Send, Reset, Outcome, Told, Done}
use Rattle.sctp_model.specs.world.Steps.{Step, OpensBoth, OpenRefused, TimePasses, Draws, Connects, ConnectRefused, BuildsOne, BuildsNone, PacketComes, IsAbsent, Sends, AbandonsOne, TakesOne, ResetsOne, TellsReset, ShutsDown, AbortsIt, NoMemory, PacketCut, PassesThrough, last_of, TimeGoesOn, MomentComes}
use Rattle.sctp_safety.specs.Parted.{Asks}
use Rattle.sctp_safety.proofs.machine.Ground.{IsFine}
use Rattle.sctp_safety.proofs.machine.DiagramRuns.{IsFresh, step_onward}
use Rattle.sctp_safety.proofs.runs.DatedBags.{Dates, AreKept}
use Rattle.sctp_safety.proofs.runs.Dating.{AllKept}
use Rattle.sctp_safety.proofs.runs.MetWorld.{IsMetWorld}
use Rattle.sctp_safety.proofs.runs.Safety.{IsSteady, steady_step}
use Rattle.sctp_safety.proofs.runs.parted.Ongoing.{ongoing_on}
use Rattle.sctp_safety.proofs.runs.parted.Parting.{Between, StepResets, step_resets, asks_shut, message_called, run_goes}
use Rattle.sctp_outcomes.specs.Users.{same_side, Sent, sent_by, sent, named, taken, time, taken_by}
use Rattle.sctp_outcomes.specs.Parted.{is_reset, ResetAfter, TakesToldOnly}
use Rattle.sctp_outcomes.proofs.AgedDates.{AreSound, step_goes_on}
use Rattle.sctp_outcomes.proofs.users.Accepted.{calls_of}
use Rattle.sctp_outcomes.proofs.users.Noted.{quiet_packet, quiet_none, step_noted}
use Rattle.sctp_outcomes.proofs.logs.Senders.{has_cases}
use Rattle.sctp_model.proofs.sender.SetLaws.{accepted}
use Rattle.sctp_outcomes.proofs.users.Runs.{AreNumbered, Adds, run_adds, sent_of_call}
use Rattle.sctp_outcomes.proofs.users.Matched.{handed_in}

-- ---- an accepted message is of a stream that takes messages

accepted_sends : (v : SenderView) (stream : ℕ) (bytes : List ℕ) → refusal v stream bytes ≡ None → is_sending (v.resets.sending stream) ≡ true
accepted_sends v stream bytes none = (accepted v stream bytes none).sends

sent_sends : (x : Side) (w : World) (e : Event) (o : Option Outcome) (v : World) → Step w e o v → (y : Sent) → Has (sent_by x e o) y → is_sending ((end_of w x).sender.resets.sending y.call.lane.stream) ≡ true
sent_sends x w e o v (OpensBoth _ _ _ _ _ _) y has = absurd has
sent_sends x w e o v (OpenRefused _ _ _) y has = absurd has
sent_sends x w e o v (TimeGoesOn z m small) y has = absurd has
sent_sends x w e o v (MomentComes z) y has = absurd has
sent_sends x w e o v (TimePasses m small) y has = absurd has
sent_sends x w e o v (Draws d dd) y has = absurd has
sent_sends x w e o v (Connects d dd answer) y has = absurd has
sent_sends x w e o v (ConnectRefused d answer) y has = absurd has
sent_sends x w e o v (BuildsOne z c cs t b) y has = absurd has
sent_sends x w e o v (BuildsNone z t b) y has = absurd has
sent_sends x w e o v (PacketComes _ z p t d brings received) y has = absurd (subst (λ (ss : List Sent). Has ss y) (quiet_packet w e z p brings x 0 o).sent has)
sent_sends x w e o v (PacketCut _ z p t brings cut) y has = absurd (subst (λ (ss : List Sent). Has ss y) (quiet_packet w e z p brings x 0 o).sent has)
sent_sends x w e o v (IsAbsent z k none) y has = absurd has
sent_sends x w e o v (Sends z c) y has = by_state (hears is_established (end_of w z).phase) has
  where
    there : (z x : Side) → is_sending ((end_of w z).sender.resets.sending c.lane.stream) ≡ true → (t : ℕ) → Has (if same_side z x then record { ticket = t; call = c } ∷ [] else []) y →
        is_sending ((end_of w x).sender.resets.sending y.call.lane.stream) ≡ true
    there A A on t (inl same) = subst (λ (z : Sent). is_sending (w.a.sender.resets.sending z.call.lane.stream) ≡ true) same on
    there A A on t (inr none) = absurd none
    there B B on t (inl same) = subst (λ (z : Sent). is_sending (w.b.sender.resets.sending z.call.lane.stream) ≡ true) same on
    there B B on t (inr none) = absurd none
    there A B on t none = absurd none
    there B A on t none = absurd none

    by_reason : (r : Option Refusal) → refusal (end_of w z).sender c.lane.stream c.bytes ≡ r → Has (sent_by x (Send z c) (Some (Told (answer_for (end_of w z) r)))) y →
        is_sending ((end_of w x).sender.resets.sending y.call.lane.stream) ≡ true
    by_reason None none h = there z x (accepted_sends (end_of w z).sender c.lane.stream c.bytes none) _ h
    by_reason (Some r) why h = absurd h

    by_state : (b : Bool) → Has (sent_by x (Send z c) (Some (Told (if b then answer_for (end_of w z) (refusal (end_of w z).sender c.lane.stream c.bytes) else NotOpen)))) y →
        is_sending ((end_of w x).sender.resets.sending y.call.lane.stream) ≡ true
    by_state true h = by_reason (refusal (end_of w z).sender c.lane.stream c.bytes) refl h
    by_state false h = absurd h
sent_sends x w e o v (AbandonsOne z k) y has = absurd has
sent_sends x w e o v (TakesOne z m h t takes) y has = absurd has
sent_sends x w e o v (ResetsOne z m) y has = absurd has
sent_sends x w e o v (TellsReset z) y has = absurd has
sent_sends x w e o v (ShutsDown z) y has = absurd has
sent_sends x w e o v (AbortsIt z why) y has = absurd has
sent_sends x w e o v (NoMemory _ other_event) y has = absurd (subst (λ (ss : List Sent). Has ss y) (quiet_none e x 0).sent has)

-- ---- tickets

numbered_on : (k : ℕ) (xs ys : List Sent) → AreNumbered k xs → AreNumbered (k + length xs) ys → AreNumbered k (xs ++ ys)
numbered_on k [] ys first second = subst (λ (n : ℕ). AreNumbered n ys) (let same : k + 0 ≡ k = omega arith in same) second
numbered_on k (x ∷ xs) ys (here, first) second =
    (here, numbered_on (suc k) xs ys first (subst (λ (n : ℕ). AreNumbered n ys) (let same : k + suc (length xs) ≡ suc k + length xs = omega arith in same) second))

pub numbered_upto : (k : ℕ) (xs : List Sent) (y : Sent) → AreNumbered k xs → Has xs y → y.ticket ≤ k + length xs
numbered_upto k [] y numbered has = absurd has
numbered_upto k (x ∷ xs) y (here, more) (inl same) = let t = ap (λ (z : Sent). z.ticket) same in omega (arith, here, t)
numbered_upto k (x ∷ xs) y (here, more) (inr has) = let low = numbered_upto (suc k) xs y more has in omega (arith, low)

pub has_either : {A : Type 0} (xs ys : List A) (x : A) → Has (xs ++ ys) x → Has xs x ⊎ Has ys x
has_either xs ys x has = has_cases xs ys x has

-- ---- what is kept on the way

module _ (s : Setup) (drawn : List ℕ) (within : (x : Side) → IsConfiguration (configuration_of s x)) (d : Dates) (x : Side) (n : ℕ) where
  -- The stream takes no message: it was reset when `count` messages had been accepted, and none of its own later. R says of which counts it was so.
  pub record IsShut (R : ℕ → Type 0) (ss : List Sent) : Type 0 where
    pub count : ℕ
    pub reset : R count
    pub upto : (y : Sent) → Has ss y → y.call.lane.stream ≡ n → y.ticket ≤ count
    pub given : count ≤ length ss

  -- c messages had been delivered in a world in which a request for the stream waited
  pub record IsMarked (R : ℕ → Type 0) (c : ℕ) (w : World) : Type 0 where
    pub world : World
    pub met : IsMetWorld d world
    pub asks : Asks (end_of world x).sender n
    pub length_is : c ≡ length (handed (end_of world (other x)).receiver n)
    pub between : Between x world w
    pub now : IsMetWorld d w
    pub count : ℕ
    pub reset : R count
    pub upto : (l : Lane) (k : ℕ) (m : Message) → l.stream ≡ n → message_at (end_of world x).sender.plan l k ≡ Some m → m.ticket ≤ count
    pub given : count ≤ (end_of world x).sender.tickets

  pub record Inv (R : ℕ → Type 0) (ss : List Sent) (w : World) : Type 0 where
    pub steady : IsSteady s drawn d w
    pub fresh : IsFresh w
    pub sound : AreSound w
    pub numbered : AreNumbered 0 ss
    pub calls : (log_of w x).calls ≡ calls_of ss
    pub tickets : (end_of w x).sender.tickets ≡ length ss
    pub shut : is_sending ((end_of w x).sender.resets.sending n) ≡ false → IsShut R ss
    pub told : (c : ℕ) → (end_of w (other x)).receiver.resets.told n ≡ Some c → IsMarked R c w

  -- more counts
  shut_map : (R Q : ℕ → Type 0) (ss : List Sent) → ((c : ℕ) → R c → Q c) → IsShut R ss → IsShut Q ss
  shut_map R Q ss up k = record { count = k.count; reset = up k.count k.reset; upto = k.upto; given = k.given }

  pub marked_map : (R Q : ℕ → Type 0) (c : ℕ) (w : World) → ((c : ℕ) → R c → Q c) → IsMarked R c w → IsMarked Q c w
  marked_map R Q c w up k = record {
    world = k.world;
    met = k.met;
    asks = k.asks;
    length_is = k.length_is;
    between = k.between;
    now = k.now;
    count = k.count;
    reset = up k.count k.reset;
    upto = k.upto;
    given = k.given;
  }

  pub map_counts : (R Q : ℕ → Type 0) (c : ℕ) (w : World) (up : (c : ℕ) → R c → Q c) (k : IsMarked R c w) → (marked_map R Q c w up k).count ≡ k.count
  unfolding marked_map
  map_counts R Q c w up k = refl

  inv_map : (R Q : ℕ → Type 0) (ss : List Sent) (w : World) → ((c : ℕ) → R c → Q c) → Inv R ss w → Inv Q ss w
  inv_map R Q ss w up k = record {
    steady = k.steady;
    fresh = k.fresh;
    sound = k.sound;
    numbered = k.numbered;
    calls = k.calls;
    tickets = k.tickets;
    shut = λ off. shut_map R Q ss up (k.shut off);
    told = λ c is. marked_map R Q c w up (k.told c is);
  }

  -- one event more
  abbrev pub With : (ℕ → Type 0) → List Sent → Event → Option Outcome → ℕ → Type 0
  With R ss e o c = R c ⊎ ((is_reset x n e o ≡ true) × (c ≡ length ss))

  pub own_reset : (e : Event) (o : Option Outcome) → e ≡ Reset x n → o ≡ Some Done → is_reset x n e o ≡ true
  own_reset e o is done = subst (λ (y : Event). is_reset x n y o ≡ true) (sym is) (subst (λ (y : Option Outcome). is_reset x n (Reset x n) y ≡ true) (sym done) (same x))
    where
      number : (n == n) ≡ true
      number = grind (arith, nat_tests)

      same : (y : Side) → (same_side y y && (n == n)) ≡ true
      same A = number
      same B = number

  pub no_sends : (e : Event) (o : Option Outcome) → e ≡ Reset x n → sent_by x e o ≡ []
  no_sends e o is = subst (λ (y : Event). sent_by x y o ≡ []) (sym is) refl

  module _ (R : ℕ → Type 0) (ss : List Sent) (w : World) (i : Inv R ss w) (e : Event) (o : Option Outcome) (v : World) (dates : AreKept d w e v) (fine : IsFine s drawn e) (step : Step w e o v) where
    abbrev pub new : List Sent
    new = sent_by x e o

    sent_one : sent x (e ∷ []) (o ∷ []) ≡ new
    sent_one = append-nil new

    adds : Adds x n w v (sent x (e ∷ []) (o ∷ [])) (named x (e ∷ []) (o ∷ [])) (taken x n (e ∷ []) (o ∷ [])) (time x (e ∷ []) (o ∷ []))
    adds = run_adds x n w (e ∷ []) (o ∷ []) (v ∷ []) (step, tt) i.fresh i.sound

    resets : StepResets d x n w e o v
    resets = step_resets s drawn within d w v e o dates fine i.steady step x n

    pub new_numbered : AreNumbered (length ss) new
    new_numbered = subst (λ (k : ℕ). AreNumbered k new) i.tickets (subst (λ (ys : List Sent). AreNumbered (end_of w x).sender.tickets ys) sent_one adds.numbered)

    numbered : AreNumbered 0 (ss ++ new)
    numbered = numbered_on 0 ss new i.numbered (subst (λ (k : ℕ). AreNumbered k new) (let same : length ss ≡ 0 + length ss = omega arith in same) new_numbered)

    calls_append : (xs ys : List Sent) → calls_of (xs ++ ys) ≡ calls_of xs ++ calls_of ys
    calls_append [] ys = refl
    calls_append (y ∷ xs) ys = ap (λ (cs : List Call). y.call ∷ cs) (calls_append xs ys)

    calls : (log_of v x).calls ≡ calls_of (ss ++ new)
    calls = adds.logged.calls ∙ ap (λ (cs : List Call). cs ++ calls_of (sent x (e ∷ []) (o ∷ []))) i.calls ∙ ap (λ (ys : List Sent). calls_of ss ++ calls_of ys) sent_one ∙ sym (calls_append ss new)

    tickets : (end_of v x).sender.tickets ≡ length (ss ++ new)
    tickets =
        let a = adds.noted.tickets in
        let b = i.tickets in
        let c = length-append ss new in
        let k = ap length sent_one in
        omega (arith, a, b, c, k)

    -- messages that are accepted on a stream that takes none
    pub none_new : is_sending ((end_of w x).sender.resets.sending n) ≡ false → (y : Sent) → Has new y → y.call.lane.stream ≡ n → ⊥
    none_new off y has on =
        let sends = subst (λ (k : ℕ). is_sending ((end_of w x).sender.resets.sending k) ≡ true) on (sent_sends x w e o v step y has) in
        cc

    shut : is_sending ((end_of v x).sender.resets.sending n) ≡ false → IsShut (With R ss e o) (ss ++ new)
    shut off = go (resets.shut off)
      where
        go : (is_sending ((end_of w x).sender.resets.sending n) ≡ false) ⊎ ((e ≡ Reset x n) × (o ≡ Some Done)) → IsShut (With R ss e o) (ss ++ new)
        go (inl before) =
            let k = i.shut before in
            record {
              count = k.count;
              reset = inl k.reset;
              upto = λ y has on. elim (has_either ss new y has) [ inl old ↦ k.upto y old on | inr later ↦ absurd (none_new before y later on) ];
              given = let g = k.given in let c = length-append ss new in omega (arith, g, c);
            }
        go (inr (is, done)) = record {
          count = length ss;
          reset = inr (own_reset e o is done, refl);
          upto = λ y has on. elim (has_either ss new y has) [
            | inl old ↦ let low = numbered_upto 0 ss y i.numbered old in omega (arith, low)
            | inr later ↦ absurd (subst (λ (ys : List Sent). Has ys y) (no_sends e o is) later)
          ];
          given = let c = length-append ss new in omega (arith, c);
        }

    goes : IsMetWorld d w → Between x w v × IsMetWorld d v
    goes met = run_goes s drawn within d w (e ∷ []) (o ∷ []) (v ∷ []) (λ y has. elim has [ inl same ↦ subst (IsFine s drawn) same fine | inr none ↦ absurd none ]) (step, tt) (dates, tt) i.steady met x

    -- a message of the plan was accepted
    was_sent : IsMetWorld d w → (l : Lane) (k : ℕ) (m : Message) → message_at (end_of w x).sender.plan l k ≡ Some m → Has ss (handed_in l m)
    was_sent met l k m there =
        sent_of_call ss m.ticket (handed_in l m).call i.numbered
        (subst (λ (cs : List Call). item_at cs m.ticket ≡ Some (handed_in l m).call) i.calls (message_called s drawn within d w x l k m met there))

    -- what was marked stays so, with its count
    pub marked_on : (c : ℕ) (k : IsMarked R c w) → (m : IsMarked (With R ss e o) c v) × (m.count ≡ k.count)
    marked_on c k =
        let on = goes k.now in (
          record {
            world = k.world;
            met = k.met;
            asks = k.asks;
            length_is = k.length_is;
            between = ongoing_on (end_of k.world x).sender (end_of k.world (other x)).receiver (end_of w x).sender (end_of w (other x)).receiver (end_of v x).sender (end_of v (other x)).receiver k.between on.0;
            now = on.1;
            count = k.count;
            reset = inl k.reset;
            upto = k.upto;
            given = k.given;
          },
          refl,
        )

    -- a request that waits is performed now
    pub marked_now : (c : ℕ) → IsMetWorld d w → Asks (end_of w x).sender n → c ≡ length (handed (end_of w (other x)).receiver n) → (k : IsShut R ss) → (m : IsMarked (With R ss e o) c v) × (m.count ≡ k.count)
    marked_now c met asks length_is k =
        let on = goes met in (
          record {
            world = w;
            met = met;
            asks = asks;
            length_is = length_is;
            between = on.0;
            now = on.1;
            count = k.count;
            reset = inl k.reset;
            upto = λ l j m stream there. k.upto (handed_in l m) (was_sent met l j m there) stream;
            given = let g = k.given in let t = i.tickets in omega (arith, g, t);
          },
          refl,
        )

    told : (c : ℕ) → (end_of v (other x)).receiver.resets.told n ≡ Some c → IsMarked (With R ss e o) c v
    told c is = go (resets.told c is)
      where
        go : ((end_of w (other x)).receiver.resets.told n ≡ Some c) ⊎ (IsMetWorld d w × (Asks (end_of w x).sender n × (c ≡ length (handed (end_of w (other x)).receiver n)))) → IsMarked (With R ss e o) c v
        go (inl before) = (marked_on c (i.told c before)).0
        go (inr (met, (asks, length_is))) = (marked_now c met asks length_is (i.shut (asks_shut s drawn within d w x n met asks))).0

    pub inv_step : Inv (With R ss e o) (ss ++ new) v
    inv_step = record {
      steady = steady_step s drawn within d w v e o dates fine i.steady step;
      fresh = (step_onward w e o v i.fresh step).fresh;
      sound = λ y. (step_goes_on w e o v i.fresh i.sound step y).sound;
      numbered = numbered;
      calls = calls;
      tickets = tickets;
      shut = shut;
      told = told;
    }

  -- ---- a run

  abbrev pub Covers : (ℕ → Type 0) → List Sent → List Event → List (Option Outcome) → ℕ → Type 0
  Covers R ss es os c = R c ⊎ ResetAfter x n (length ss) es os c

  pub inv_run : (R : ℕ → Type 0) (ss : List Sent) (w : World) (es : List Event) (os : List (Option Outcome)) (vs : List World) → Inv R ss w → PassesThrough w es os vs → AllKept d w es vs →
      ((e : Event) → Has es e → IsFine s drawn e) → Inv (Covers R ss es os) (ss ++ sent x es os) (last_of w vs)
  inv_run R ss w [] [] [] i passes kept fine = subst (λ (ys : List Sent). Inv (Covers R ss [] []) ys w) (sym (append-nil ss)) (inv_map R (Covers R ss [] []) ss w (λ c h. inl h) i)
  inv_run R ss w (e ∷ es) (o ∷ os) (v ∷ vs) i (step, passes) (dates, kept) fine =
      let this = fine e (inl refl) in
      let one = inv_step R ss w i e o v dates this step in
      let rest = inv_run (With R ss e o) (ss ++ sent_by x e o) v es os vs one passes kept (λ y h. fine y (inr h)) in
      subst (λ (ys : List Sent). Inv (Covers R ss (e ∷ es) (o ∷ os)) ys (last_of v vs)) (append_assoc ss (sent_by x e o) (sent x es os))
      (inv_map (Covers (With R ss e o) (ss ++ sent_by x e o) es os) (Covers R ss (e ∷ es) (o ∷ os)) ((ss ++ sent_by x e o) ++ sent x es os) (last_of v vs) up rest)
    where
      up : (c : ℕ) → Covers (With R ss e o) (ss ++ sent_by x e o) es os c → Covers R ss (e ∷ es) (o ∷ os) c
      up c (inl (inl before)) = inl before
      up c (inl (inr now)) = inr (inl now)
      up c (inr later) = inr (inr (subst (λ (k : ℕ). ResetAfter x n k es os c) (length-append ss (sent_by x e o)) later))
  inv_run R ss w [] (o ∷ os) vs i passes kept fine = absurd passes
  inv_run R ss w [] [] (v ∷ vs) i passes kept fine = absurd passes
  inv_run R ss w (e ∷ es) [] vs i passes kept fine = absurd passes
  inv_run R ss w (e ∷ es) (o ∷ os) [] i passes kept fine = absurd passes

  -- ---- the mark is not passed by what is taken

  abbrev pub Under : World → Type 0
  Under w = (c : ℕ) → (end_of w (other x)).receiver.resets.told n ≡ Some c → length ((end_of w (other x)).receiver.taken n) ≤ c

  pub under_step : (w v : World) (e : Event) (o : Option Outcome) → AreKept d w e v → IsFine s drawn e → IsSteady s drawn d w → IsFresh w → AreSound w → Step w e o v →
      (taken_by (other x) n e o ≡ []) ⊎ ((end_of v (other x)).receiver.resets.told n ≡ None) → Under w → Under v
  under_step w v e o dates fine steady fresh sound step (inr none) under c is = absurd (cc (none, is))
  under_step w v e o dates fine steady fresh sound step (inl nothing) under c is = go ((step_resets s drawn within d w v e o dates fine steady step x n).told c is)
    where
      same : length ((end_of v (other x)).receiver.taken n) ≡ length ((end_of w (other x)).receiver.taken n)
      same = ap length ((step_noted (other x) n w e o v fresh sound step).taken ∙ ap (λ (hs : List Handed). (end_of w (other x)).receiver.taken n ++ hs) nothing
          ∙ append-nil ((end_of w (other x)).receiver.taken n))

      go : ((end_of w (other x)).receiver.resets.told n ≡ Some c) ⊎ (IsMetWorld d w × (Asks (end_of w x).sender n × (c ≡ length (handed (end_of w (other x)).receiver n)))) →
          length ((end_of v (other x)).receiver.taken n) ≤ c
      go (inl before) = let low = under c before in omega (arith, low, same)
      go (inr (met, (asks, all))) =
          let k = length-append ((end_of w (other x)).receiver.taken n) ((end_of w (other x)).receiver.waiting n) in
          let count : c ≡ length ((end_of w (other x)).receiver.taken n ++ (end_of w (other x)).receiver.waiting n) = all in
          omega (arith, same, count, k)

  pub under_run : (w : World) (es : List Event) (os : List (Option Outcome)) (vs : List World) → PassesThrough w es os vs → AllKept d w es vs → ((e : Event) → Has es e → IsFine s drawn e) →
      IsSteady s drawn d w → IsFresh w → AreSound w → TakesToldOnly (other x) n es os vs → Under w → Under (last_of w vs)
  under_run w [] [] [] passes kept fine steady fresh sound takes under = under
  under_run w (e ∷ es) (o ∷ os) (v ∷ vs) (step, passes) (dates, kept) fine steady fresh sound (take, takes) under =
      let this = fine e (inl refl) in
      under_run v es os vs passes kept (λ y h. fine y (inr h)) (steady_step s drawn within d w v e o dates this steady step) (step_onward w e o v fresh step).fresh
      (λ y. (step_goes_on w e o v fresh sound step y).sound) takes (under_step w v e o dates this steady fresh sound step take under)
  under_run w [] (o ∷ os) vs passes kept fine steady fresh sound takes under = absurd passes
  under_run w [] [] (v ∷ vs) passes kept fine steady fresh sound takes under = absurd passes
  under_run w (e ∷ es) [] vs passes kept fine steady fresh sound takes under = absurd passes
  under_run w (e ∷ es) (o ∷ os) [] passes kept fine steady fresh sound takes under = absurd passes

-- those of the events before others
pub takes_before : (y : Side) (n : ℕ) (w : World) (es more : List Event) (os others : List (Option Outcome)) (vs us : List World) → PassesThrough w es os vs →
    TakesToldOnly y n (es ++ more) (os ++ others) (vs ++ us) → TakesToldOnly y n es os vs
takes_before y n w [] more [] others [] us passes takes = tt
takes_before y n w (e ∷ es) more (o ∷ os) others (v ∷ vs) us (step, passes) (this, takes) = (this, takes_before y n v es more os others vs us passes takes)
takes_before y n w [] more (o ∷ os) others vs us passes takes = absurd passes
takes_before y n w [] more [] others (v ∷ vs) us passes takes = absurd passes
takes_before y n w (e ∷ es) more [] others vs us passes takes = absurd passes
takes_before y n w (e ∷ es) more (o ∷ os) others [] us passes takes = absurd passes
