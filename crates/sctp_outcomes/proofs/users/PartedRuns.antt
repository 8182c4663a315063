-- Over a whole run, each reset that is reported to a user parts the messages of its stream.
use Rattle.std.proofs.Common.{◌≡◌, ◌⊎◌, ℕ, zero, suc, ◌-◌, ◌<◌, ◌≤◌, true, false, List, [], ◌∷◌, ◌++◌, length, map, take, drop, Option, Some, None, is_some, inl, inr, refl, sym, subst, ap, ◌∙◌, arith}
use Rattle.std.specs.Prelude.{unwrap_or}
use Rattle.sctp_model.specs.numbers.Lists.{Has}
use Rattle.sctp_model.specs.messages.Plan.{Message, Part, entry_at, message_at}
use Rattle.sctp_model.specs.messages.Format.{Lane}
use Rattle.sctp_model.specs.receiver.ReceiverView.{Handed, handed}
use Rattle.sctp_model.specs.receiver.ResetTaken.{old_waiting}
use Rattle.sctp_model.specs.sender.Outgoing.{is_sending}
use Rattle.sctp_model.specs.sender.SenderView.{IsDrained}
use Rattle.sctp_model.specs.sender.Readers.{drained}
use Rattle.sctp_model.specs.sender.Words.{count_up}
use Rattle.sctp_model.specs.wire.Packet.{Packet}
use Rattle.sctp_model.specs.world.Calls.{Call}
use Rattle.sctp_model.specs.end.EndView.{Over, Completed, format_of}
use Rattle.sctp_model.specs.end.Configured.{IsConfiguration}
use Rattle.sctp_model.specs.end.UserCalls.{reset_there}
use Rattle.sctp_model.specs.world.World.{Side, A, B, other, World, end_of, log_of, Setup, configuration_of, start}
use Rattle.sctp_model.specs.world.Events.{Event, WasReset, Outcome, ResetThere, resets_told}
use Rattle.sctp_model.specs.world.Steps.{Brings, FromBag, FromStranger, NoPacket, Step, OpensBoth, OpenRefused, TimePasses, Draws, Connects, ConnectRefused, BuildsOne, BuildsNone, PacketComes, IsAbsent, Sends, AbandonsOne, TakesOne, ResetsOne, TellsReset, ShutsDown, AbortsIt, NoMemory, PacketCut, PassesThrough, last_of, TimeGoesOn, MomentComes}
use Rattle.sctp_model.specs.world.Aged.{Aged}
use Rattle.sctp_model.specs.world.Premises.{drawn_in, FreshAndUnforged, IsAllArrived, IsReachedInTime, IsReachable}
use Rattle.sctp_model.proofs.sender.WordLaws.{found_is, has_left, has_right}
use Rattle.sctp_safety.specs.Parted.{HandsLaterOnes}
use Rattle.sctp_safety.proofs.machine.EndsAgree.{fine_by}
use Rattle.sctp_safety.proofs.machine.Ground.{IsFine}
use Rattle.sctp_safety.proofs.runs.Courses.{passing_is_a_run, passing_goes_on}
use Rattle.sctp_safety.proofs.runs.DatedBags.{Dates}
use Rattle.sctp_safety.proofs.runs.Dating.{dates_of, AllKept, kept_in_time}
use Rattle.sctp_safety.proofs.runs.Directions.{senders_known}
use Rattle.sctp_safety.proofs.runs.MetWorld.{IsMetWorld}
use Rattle.sctp_safety.proofs.runs.Safety.{IsSteady, two_ends_are_safe, nothing_is_missing, nothing_waits}
use Rattle.sctp_safety.proofs.runs.parted.Ongoing.{ongoing_on, entries_last}
use Rattle.sctp_safety.proofs.runs.parted.Parting.{Between, handed_named, run_goes, parts_between, beginning_steady, steady_start}
use Rattle.sctp_safety.proofs.sending.SenderCalls.{drained_is_told}
use Rattle.sctp_outcomes.specs.Users.{Sent, sent, named, taken, time, exchange, Match}
use Rattle.sctp_outcomes.specs.Parted.{ResetAfter, IsTold, place_of, AreMatched, AreParted, ResetsPartMessages, TakesToldOnly}
use Rattle.sctp_outcomes.proofs.AgedDates.{start_sound}
use Rattle.sctp_outcomes.proofs.InOrder.{both_senders_are_in_order}
use Rattle.sctp_outcomes.proofs.users.Accepted.{calls_of, clocks_begin}
use Rattle.sctp_outcomes.proofs.users.Runs.{AreNumbered, Adds, run_adds}
use Rattle.sctp_outcomes.proofs.users.Matched.{Right, Built, built, is_match, lane_for}
use Rattle.sctp_outcomes.proofs.users.Matched.{IsTold as IsKnown}
use Rattle.sctp_outcomes.proofs.users.Parted.{Covers, IsMarked, Inv, inv_run, under_run, takes_before}

-- ---- lists

drop_has : {A : Type 0} (p : ℕ) (xs : List A) (x : A) → Has (drop p xs) x → Has xs x
drop_has zero xs x has = has
drop_has (suc p) [] x has = has
drop_has (suc p) (y ∷ xs) x has = inr (drop_has p xs x has)

drop_behind : {A : Type 0} (p : ℕ) (xs ys : List A) (y : A) → length xs ≤ p → Has (drop p (xs ++ ys)) y → Has ys y
drop_behind p [] ys y le has = drop_has p ys y has
drop_behind zero (x ∷ xs) ys y le has = absurd (omega (arith, le))
drop_behind (suc p) (x ∷ xs) ys y le has = drop_behind p xs ys y (omega (arith, le)) has

take_front : {A : Type 0} (p : ℕ) (xs ys : List A) (y : A) → p ≤ length xs → Has (take p (xs ++ ys)) y → Has xs y
take_front zero xs ys y le has = absurd has
take_front (suc p) [] ys y le has = absurd (omega (arith, le))
take_front (suc p) (x ∷ xs) ys y le (inl same) = inl same
take_front (suc p) (x ∷ xs) ys y le (inr has) = inr (take_front p xs ys y (omega (arith, le)) has)

has_map : (ms : List Match) (m : Match) → Has ms m → Has (map (λ (k : Match). k.message) ms) m.message
has_map (k ∷ ms) m (inl same) = inl (ap (λ (z : Match). z.message) same)
has_map (k ∷ ms) m (inr has) = inr (has_map ms m has)
has_map [] m has = absurd has

drop_map : (p : ℕ) (ms : List Match) (m : Match) → Has (drop p ms) m → Has (drop p (map (λ (k : Match). k.message) ms)) m.message
drop_map zero ms m has = has_map ms m has
drop_map (suc p) [] m has = absurd has
drop_map (suc p) (k ∷ ms) m has = drop_map p ms m has

take_map : (p : ℕ) (ms : List Match) (m : Match) → Has (take p ms) m → Has (take p (map (λ (k : Match). k.message) ms)) m.message
take_map zero ms m has = absurd has
take_map (suc p) [] m has = absurd has
take_map (suc p) (k ∷ ms) m (inl same) = inl (ap (λ (z : Match). z.message) same)
take_map (suc p) (k ∷ ms) m (inr has) = inr (take_map p ms m has)

take_has : {A : Type 0} (p : ℕ) (xs : List A) (x : A) → Has (take p xs) x → Has xs x
take_has zero xs x has = absurd has
take_has (suc p) [] x has = absurd has
take_has (suc p) (y ∷ xs) x (inl same) = inl same
take_has (suc p) (y ∷ xs) x (inr has) = inr (take_has p xs x has)

-- ---- a run in two parts

record Halves (w : World) (es more : List Event) (os others : List (Option Outcome)) (vs : List World) : Type 0 where
  first : List World
  second : List World
  all : vs ≡ first ++ second
  passes : PassesThrough w es os first
  goes_on : PassesThrough (last_of w first) more others second

halves : (w : World) (es more : List Event) (os others : List (Option Outcome)) (vs : List World) → length os ≡ length es → PassesThrough w (es ++ more) (os ++ others) vs → Halves w es more os others vs
halves w [] more [] others vs len passes = record { first = []; second = vs; all = refl; passes = tt; goes_on = passes }
halves w (e ∷ es) more (o ∷ os) others (v ∷ vs) len (step, passes) =
    let r = halves v es more os others vs (omega (arith, len)) passes in
    record { first = v ∷ r.first; second = r.second; all = ap (λ (ws : List World). v ∷ ws) r.all; passes = (step, r.passes); goes_on = r.goes_on }
halves w (e ∷ es) more (o ∷ os) others [] len passes = absurd passes
halves w [] more (o ∷ os) others vs len passes = absurd (omega (arith, len))
halves w (e ∷ es) more [] others vs len passes = absurd (omega (arith, len))

kept_front : (d : Dates) (w : World) (es more : List Event) (os : List (Option Outcome)) (vs beyond : List World) → PassesThrough w es os vs → AllKept d w (es ++ more) (vs ++ beyond) → AllKept d w es vs
kept_front d w [] more [] [] beyond passes kept = tt
kept_front d w (e ∷ es) more (o ∷ os) (v ∷ vs) beyond (step, passes) (now, kept) = (now, kept_front d v es more os vs beyond passes kept)
kept_front d w [] more (o ∷ os) vs beyond passes kept = absurd passes
kept_front d w [] more [] (v ∷ vs) beyond passes kept = absurd passes
kept_front d w (e ∷ es) more [] vs beyond passes kept = absurd passes
kept_front d w (e ∷ es) more (o ∷ os) [] beyond passes kept = absurd passes

-- ---- what is reported of a reset

brings_none : (w : World) (e : Event) (z : Side) (p : Option Packet) → Brings w e z p → (y : Side) → e ≡ WasReset y → ⊥
brings_none w e z p (FromBag _ _ _ _) y is = cc
brings_none w e z p (FromStranger _ _ _) y is = cc
brings_none w e z p (NoPacket _) y is = cc

pub step_tells : (w : World) (e : Event) (o : Option Outcome) (v : World) → Step w e o v → (y : Side) (n k : ℕ) → e ≡ WasReset y → o ≡ Some (ResetThere n k) →
    (reset_there (end_of w y) ≡ Some n) × (k ≡ old_waiting (end_of w y).receiver n)
step_tells w e o v (OpensBoth _ _ _ _ _ _) y n k is told = absurd (cc)
step_tells w e o v (OpenRefused _ _ _) y n k is told = absurd (cc)
step_tells w e o v (TimeGoesOn z m small) y n k is told = absurd (cc)
step_tells w e o v (MomentComes z) y n k is told = absurd (cc)
step_tells w e o v (TimePasses m small) y n k is told = absurd (cc)
step_tells w e o v (Draws d dd) y n k is told = absurd (cc)
step_tells w e o v (Connects d dd answer) y n k is told = absurd (cc)
step_tells w e o v (ConnectRefused d answer) y n k is told = absurd (cc)
step_tells w e o v (BuildsOne z c cs t b) y n k is told = absurd (cc)
step_tells w e o v (BuildsNone z t b) y n k is told = absurd (cc)
step_tells w e o v (PacketComes _ z p t d brings received) y n k is told = absurd (brings_none w e z p brings y is)
step_tells w e o v (PacketCut _ z p t brings cut) y n k is told = absurd (brings_none w e z p brings y is)
step_tells w e o v (IsAbsent z i none) y n k is told = absurd (cc)
step_tells w e o v (Sends z c) y n k is told = absurd (cc)
step_tells w e o v (AbandonsOne z i) y n k is told = absurd (cc)
step_tells w e o v (TakesOne z m h t takes) y n k is told = absurd (cc)
step_tells w e o v (ResetsOne z m) y n k is told = absurd (cc)
step_tells w e o v (TellsReset z) y n k is told =
    let same : z ≡ y = cc is in
    subst (λ (x : Side). (reset_there (end_of w x) ≡ Some n) × (k ≡ old_waiting (end_of w x).receiver n)) same (by (reset_there (end_of w z)) refl told)
  where
    by : (r : Option ℕ) → reset_there (end_of w z) ≡ r → Some (resets_told (end_of w z) r) ≡ Some (ResetThere n k) → (reset_there (end_of w z) ≡ Some n) × (k ≡ old_waiting (end_of w z).receiver n)
    by None there h = absurd (cc)
    by (Some i) there h =
        let stream : i ≡ n = cc h in
        let count : old_waiting (end_of w z).receiver i ≡ k = cc h in
        (there ∙ ap (λ (j : ℕ). Some j) stream, sym count ∙ ap (old_waiting (end_of w z).receiver) stream)
step_tells w e o v (ShutsDown z) y n k is told = absurd (cc)
step_tells w e o v (AbortsIt z why) y n k is told = absurd (cc)
step_tells w e o v (NoMemory _ other_event) y n k is told = absurd (cc)

pub some_told : (o : Option ℕ) → is_some o ≡ true → (c : ℕ) × (o ≡ Some c)
some_told (Some c) on = (c, refl)
some_told None on = absurd (cc)

-- ---- the whole run

pub start_untold : (s : Setup) (x : Side) (n c : ℕ) → (end_of (start s) x).receiver.resets.told n ≡ Some c → ⊥
start_untold s A n c is = cc
start_untold s B n c is = cc

start_sends : (s : Setup) (x : Side) (n : ℕ) → is_sending ((end_of (start s) x).sender.resets.sending n) ≡ false → ⊥
start_sends s A n off = cc
start_sends s B n off = cc

start_calls : (s : Setup) (x : Side) → (log_of (start s) x).calls ≡ []
start_calls s A = refl
start_calls s B = refl

start_tickets : (s : Setup) (x : Side) → (end_of (start s) x).sender.tickets ≡ 0
start_tickets s A = refl
start_tickets s B = refl

start_named : (s : Setup) (x : Side) (t : ℕ) → (log_of (start s) x).named t ≡ true → ⊥
start_named s A t on = cc
start_named s B t on = cc

pub start_taken : (s : Setup) (x : Side) (n : ℕ) → (end_of (start s) x).receiver.taken n ≡ []
start_taken s A n = refl
start_taken s B n = refl

module _ (s : Setup) (es : List Event) (os : List (Option Outcome)) (vs : List World) (configured : (x : Side) → IsConfiguration (configuration_of s x))
    (passes : PassesThrough (start s) es os vs) (premises : FreshAndUnforged s.sealing es) (aged : Aged (start s) es vs) (x : Side) (n : ℕ) where
  abbrev pub w : World
  w = last_of (start s) vs

  abbrev pub drawn : List ℕ
  drawn = drawn_in es

  abbrev pub d : Dates
  d = dates_of (start s) vs

  in_time : IsReachedInTime s es w
  in_time = record { configured = configured; answers = os; worlds = vs; run = passes; ends = refl; premises = premises; aged = aged }

  reachable : IsReachable s es w
  reachable = record { configured = configured; answers = os; run = passing_is_a_run (start s) es os vs passes; premises = premises }

  adds : (y : Side) → Adds y n (start s) w (sent y es os) (named y es os) (taken y n es os) (time y es os)
  adds y = run_adds y n (start s) es os vs passes (λ q. (refl, refl)) (start_sound s)

  arrives : (z y : Side) → (end_of w y).phase ≡ Over Completed → IsAllArrived (end_of w z).sender (end_of w (other z)).receiver
  arrives A y over = ((nothing_is_missing s es w in_time) y over).0
  arrives B y over = ((nothing_is_missing s es w in_time) y over).1

  drains : (z y : Side) → (end_of w y).phase ≡ Over Completed → IsDrained (end_of w z).sender
  drains z y over = (drained_is_told (format_of (end_of w z)) (end_of w z).sender (both_senders_are_in_order s es w reachable z).reached).0 (of_both z (nothing_waits s es w in_time y over))
    where
      of_both : (z : Side) → (drained w.a.sender ≡ true) × (drained w.b.sender ≡ true) → drained (end_of w z).sender ≡ true
      of_both A both = both.0
      of_both B both = both.1

  pub known : IsKnown w x n (sent x es os) (named x es os) (time x es os)
  known = record {
    safe = two_ends_are_safe s es w in_time x;
    orderly = (both_senders_are_in_order s es w reachable x).plan;
    reached = (both_senders_are_in_order s es w reachable x).reached;
    known = senders_known s es w in_time x;
    numbered = subst (λ (k : ℕ). AreNumbered k (sent x es os)) (start_tickets s x) (adds x).numbered;
    calls = (adds x).logged.calls ∙ ap (λ (cs : List Call). cs ++ calls_of (sent x es os)) (start_calls s x);
    named = λ t on. elim ((adds x).logged.named t on) [ inl before ↦ absurd (start_named s x t before) | inr has ↦ has ];
    clock = (let same = (adds x).logged.clock in let none = clocks_begin s x in omega (arith, same, none));
    closed = λ y over. (arrives x y over, drains x y over);
  }

  abbrev pub all : Built w x n (sent x es os) (named x es os) (time x es os) known (handed (end_of w (other x)).receiver n)
  all = built w x n (sent x es os) (named x es os) (time x es os) known

  pub matched : AreMatched (exchange x n es os w) all.matches
  matched = record {
    all = all.all ∙ ap (λ (hs : List Handed). hs ++ (end_of w (other x)).receiver.waiting n)
        ((adds (other x)).noted.taken ∙ ap (λ (hs : List Handed). hs ++ taken (other x) n es os) (start_taken s (other x) n));
    each = λ m has. is_match w x n (sent x es os) (named x es os) (time x es os) known (taken (other x) n es os) m (all.each m has).0;
    once = all.once;
    in_order = all.in_order;
  }

  pub fine : (e : Event) → Has es e → IsFine s drawn e
  fine = fine_by s es premises

  pub kept : AllKept d (start s) es vs
  kept = kept_in_time s es os vs passes aged

  -- a match is of the message that its first chunk says
  ticket_is : (m : Match) → Right w x n m → (k : ℕ) (y : Message) → message_at (end_of w x).sender.plan m.message.lane k ≡ Some y → entry_at (end_of w x).sender.plan m.message.first ≡ Some (Part m.message.lane k 0) →
      m.sent.ticket ≡ y.ticket
  ticket_is m q k y there first =
      let own = q.sent.first in
      let part : Part (lane_for q.kind n) q.sent.number 0 ≡ Part m.message.lane k 0 = cc (own, first) in
      let lane : lane_for q.kind n ≡ m.message.lane = cc part in
      let number : q.sent.number ≡ k = cc part in
      let its : message_at (end_of w x).sender.plan m.message.lane k ≡ Some q.sent.message =
      subst (λ (l : Lane). message_at (end_of w x).sender.plan l k ≡ Some q.sent.message) lane
      (subst (λ (i : ℕ). message_at (end_of w x).sender.plan (lane_for q.kind n) i ≡ Some q.sent.message) number q.sent.complete.0) in
      let same : q.sent.message ≡ y = cc (its, there) in
      sym (ap (λ (z : Sent). z.ticket) q.is) ∙ ap (λ (z : Message). z.ticket) same

  -- ---- a place at which a request was performed

  module _ (R : ℕ → Type 0) (c : ℕ) (mark : IsMarked s drawn configured d x n R c w) where
    marked_hands : HandsLaterOnes (end_of w x).sender (end_of mark.world x).sender.tickets (end_of mark.world (other x)).receiver (end_of w (other x)).receiver n
    marked_hands = parts_between s drawn configured d mark.world w x n mark.between mark.met mark.now mark.asks

    pub marked_new : (m : Match) → Has (drop c all.matches) m → mark.count < m.sent.ticket
    marked_new m has =
        let behind = drop_behind c (handed (end_of mark.world (other x)).receiver n) marked_hands.more m.message (let a = mark.length_is in omega (arith, a))
        (subst (λ (hs : List Handed). Has (drop c hs) m.message) (all.all ∙ marked_hands.behind) (drop_map c all.matches m has)) in
        let k = marked_hands.each m.message behind in
        let ticket = ticket_is m (all.each m (drop_has c all.matches m has)).0 k.number k.message k.named k.first in
        let late = k.later in
        let given = mark.given in
        omega (arith, ticket, late, given)

    pub marked_old : (m : Match) → Has (take c all.matches) m → m.sent.ticket ≤ mark.count
    marked_old m has =
        let front = take_front c (handed (end_of mark.world (other x)).receiver n) marked_hands.more m.message (let a = mark.length_is in omega (arith, a))
        (subst (λ (hs : List Handed). Has (take c hs) m.message) (all.all ∙ marked_hands.behind) (take_map c all.matches m has)) in
        let k = handed_named s drawn configured d mark.world x n m.message mark.met front in
        let ticket = ticket_is m (all.each m (take_has c all.matches m has)).0 k.0 k.1 (mark.between.since.stays m.message.lane k.0 k.1 k.2)
        (entries_last (end_of mark.world x).sender (end_of w x).sender mark.between.since m.message.first _ k.3) in
        let low = mark.upto m.message.lane k.0 k.1 k.4 k.2 in
        omega (arith, ticket, low)

  -- ---- a reset that was reported

  pub inv_start : Inv s drawn configured d x n (λ c. ⊥) [] (start s)
  inv_start = record {
    steady = steady_start s es d;
    fresh = λ q. (refl, refl);
    sound = start_sound s;
    numbered = tt;
    calls = start_calls s x;
    tickets = start_tickets s x;
    shut = λ off. absurd (start_sends s x n off);
    told = λ c is. absurd (start_untold s (other x) n c is);
  }

  module _ (t : IsTold x n es os) where
    abbrev h : Halves (start s) t.past (WasReset (other x) ∷ t.later) t.answers (Some (ResetThere n t.waiting) ∷ t.others) vs
    h = halves (start s) t.past (WasReset (other x) ∷ t.later) t.answers (Some (ResetThere n t.waiting) ∷ t.others) vs t.aligned
        (subst (λ (ps : List (Option Outcome)). PassesThrough (start s) (t.past ++ WasReset (other x) ∷ t.later) ps vs) t.outcomes
        (subst (λ (fs : List Event). PassesThrough (start s) fs os vs) t.events passes))

    abbrev at_told : World
    at_told = last_of (start s) h.first

    kept_both : AllKept d (start s) (t.past ++ WasReset (other x) ∷ t.later) (h.first ++ h.second)
    kept_both = subst (λ (ws : List World). AllKept d (start s) (t.past ++ WasReset (other x) ∷ t.later) ws) h.all (subst (λ (fs : List Event). AllKept d (start s) fs vs) t.events kept)

    fine_both : (e : Event) → Has (t.past ++ WasReset (other x) ∷ t.later) e → IsFine s drawn e
    fine_both e has = fine e (subst (λ (fs : List Event). Has fs e) (sym t.events) has)

    steady : IsSteady s drawn d at_told × AllKept d at_told (WasReset (other x) ∷ t.later) h.second
    steady = beginning_steady s drawn configured d (start s) t.past (WasReset (other x) ∷ t.later) t.answers h.first h.second fine_both h.passes kept_both (steady_start s es d)

    last : last_of at_told h.second ≡ w
    last = sym (passing_goes_on (start s) t.past (WasReset (other x) ∷ t.later) t.answers (Some (ResetThere n t.waiting) ∷ t.others) h.first h.second h.passes h.goes_on).1
        ∙ ap (last_of (start s)) (sym h.all)

    inv : Inv s drawn configured d x n (Covers s drawn configured d x n (λ c. ⊥) [] t.past t.answers) (sent x t.past t.answers) at_told
    inv = inv_run s drawn configured d x n (λ c. ⊥) [] (start s) t.past t.answers h.first inv_start h.passes
        (kept_front d (start s) t.past (WasReset (other x) ∷ t.later) t.answers h.first h.second h.passes kept_both)
        (λ e has. fine_both e (has_left t.past (WasReset (other x) ∷ t.later) e has))

    -- what was reported
    tells : (v : List World) → PassesThrough at_told (WasReset (other x) ∷ t.later) (Some (ResetThere n t.waiting) ∷ t.others) v →
        (reset_there (end_of at_told (other x)) ≡ Some n) × (t.waiting ≡ old_waiting (end_of at_told (other x)).receiver n)
    tells (v ∷ more) (step, on) = step_tells at_told (WasReset (other x)) (Some (ResetThere n t.waiting)) v step (other x) n t.waiting refl refl
    tells [] on = absurd on

    abbrev there : (c : ℕ) × ((end_of at_told (other x)).receiver.resets.told n ≡ Some c)
    there = some_told ((end_of at_told (other x)).receiver.resets.told n) (found_is _ (count_up 0 (end_of at_told (other x)).receiver.streams) n (tells h.second h.goes_on).0).1

    abbrev mark : IsMarked s drawn configured d x n (Covers s drawn configured d x n (λ c. ⊥) [] t.past t.answers) there.0 at_told
    mark = inv.told there.0 there.1

    beyond : Between x at_told (last_of at_told h.second) × IsMetWorld d (last_of at_told h.second)
    beyond = run_goes s drawn configured d at_told (WasReset (other x) ∷ t.later) (Some (ResetThere n t.waiting) ∷ t.others) h.second
        (λ e has. fine_both e (has_right t.past (WasReset (other x) ∷ t.later) e has)) h.goes_on steady.1 steady.0 mark.now x

    whole : Between x mark.world w
    whole = subst (Between x mark.world) last
        (ongoing_on (end_of mark.world x).sender (end_of mark.world (other x)).receiver (end_of at_told x).sender (end_of at_told (other x)).receiver
        (end_of (last_of at_told h.second) x).sender (end_of (last_of at_told h.second) (other x)).receiver mark.between beyond.0)

    hands : HandsLaterOnes (end_of w x).sender (end_of mark.world x).sender.tickets (end_of mark.world (other x)).receiver (end_of w (other x)).receiver n
    hands = parts_between s drawn configured d mark.world w x n whole mark.met (subst (IsMetWorld d) last beyond.1) mark.asks

    -- how many were taken at_told
    took : length ((end_of at_told (other x)).receiver.taken n) ≡ length (taken (other x) n t.past t.answers)
    took =
        let noted = (run_adds (other x) n (start s) t.past t.answers h.first h.passes (λ q. (refl, refl)) (start_sound s)).noted.taken in
        ap length (noted ∙ ap (λ (hs : List Handed). hs ++ taken (other x) n t.past t.answers) (start_taken s (other x) n))

    waits : t.waiting ≡ there.0 - length (taken (other x) n t.past t.answers)
    waits =
        (tells h.second h.goes_on).1 ∙ ap (λ (o : Option ℕ). unwrap_or o 0 - length ((end_of at_told (other x)).receiver.taken n)) there.1
        ∙ ap (λ (k : ℕ). there.0 - k) took

    past_all : length (handed (end_of mark.world (other x)).receiver n) ≤ place_of x n es os t
    past_all = let a = mark.length_is in let b = waits in omega (arith, a, b)

    new : (m : Match) → Has (drop (place_of x n es os t) all.matches) m → mark.count < m.sent.ticket
    new m has =
        let there = drop_behind (place_of x n es os t) (handed (end_of mark.world (other x)).receiver n) hands.more m.message past_all
        (subst (λ (hs : List Handed). Has (drop (place_of x n es os t) hs) m.message) (all.all ∙ hands.behind) (drop_map (place_of x n es os t) all.matches m has)) in
        let k = hands.each m.message there in
        let ticket = ticket_is m (all.each m (drop_has (place_of x n es os t) all.matches m has)).0 k.number k.message k.named k.first in
        let late = k.later in
        let given = mark.given in
        omega (arith, ticket, late, given)

    -- what was taken doesn't pass the mark
    below : TakesToldOnly (other x) n es os vs → length (taken (other x) n t.past t.answers) ≤ there.0
    below takes =
        let first = takes_before (other x) n (start s) t.past (WasReset (other x) ∷ t.later) t.answers (Some (ResetThere n t.waiting) ∷ t.others) h.first h.second h.passes
        (subst (λ (ws : List World). TakesToldOnly (other x) n (t.past ++ WasReset (other x) ∷ t.later) (t.answers ++ Some (ResetThere n t.waiting) ∷ t.others) ws) h.all
        (subst (λ (ps : List (Option Outcome)). TakesToldOnly (other x) n (t.past ++ WasReset (other x) ∷ t.later) ps vs) t.outcomes
        (subst (λ (fs : List Event). TakesToldOnly (other x) n fs os vs) t.events takes))) in
        let low = under_run s drawn configured d x n (start s) t.past t.answers h.first h.passes
        (kept_front d (start s) t.past (WasReset (other x) ∷ t.later) t.answers h.first h.second h.passes kept_both)
        (λ e has. fine_both e (has_left t.past (WasReset (other x) ∷ t.later) e has)) (steady_start s es d) (λ q. (refl, refl)) (start_sound s) first
        (λ c is. absurd (start_untold s (other x) n c is)) there.0 there.1 in
        let same = took in
        omega (arith, low, same)

    reaches : (0 < t.waiting) ⊎ TakesToldOnly (other x) n es os vs → place_of x n es os t ≤ length (handed (end_of mark.world (other x)).receiver n)
    reaches (inl some) = let a = mark.length_is in let b = waits in omega (arith, a, b, some)
    reaches (inr takes) = let a = mark.length_is in let b = waits in let c = below takes in omega (arith, a, b, c)

    old : (0 < t.waiting) ⊎ TakesToldOnly (other x) n es os vs → (m : Match) → Has (take (place_of x n es os t) all.matches) m → m.sent.ticket ≤ mark.count
    old so m has =
        let within = reaches so in
        let there = take_front (place_of x n es os t) (handed (end_of mark.world (other x)).receiver n) hands.more m.message within
        (subst (λ (hs : List Handed). Has (take (place_of x n es os t) hs) m.message) (all.all ∙ hands.behind) (take_map (place_of x n es os t) all.matches m has)) in
        let k = handed_named s drawn configured d mark.world x n m.message mark.met there in
        let ticket = ticket_is m (all.each m (take_has (place_of x n es os t) all.matches m has)).0 k.0 k.1 (whole.since.stays m.message.lane k.0 k.1 k.2)
        (entries_last (end_of mark.world x).sender (end_of w x).sender whole.since m.message.first _ k.3) in
        let low = mark.upto m.message.lane k.0 k.1 k.4 k.2 in
        omega (arith, ticket, low)

    reset : ResetAfter x n 0 t.past t.answers mark.count
    reset = elim mark.reset [ inl none ↦ absurd none | inr now ↦ now ]

    parted : AreParted x n es os vs t all.matches
    parted = record { count = mark.count; reset = reset; new = new; old = old }

pub resets_part_messages : ResetsPartMessages
resets_part_messages s es os vs configured passes premises aged x n =
    ((all s es os vs configured passes premises aged x n).matches, matched s es os vs configured passes premises aged x n, λ t. parted s es os vs configured passes premises aged x n t)
