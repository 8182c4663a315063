-- A stream on which nothing waits, and each of whose messages takes no further index, stays so until its user sends on it; and a message that takes none,
-- never does.
use Rattle.std.proofs.Common.{◌≡◌, ℕ, zero, suc, ◌<◌, ◌≤◌, List, [], ◌∷◌, ◌++◌, length, slice_get, Some, inl, inr, refl, sym, subst, ap, arith, ◌∙◌, le_refl}
use Rattle.sctp_model.specs.numbers.Lists.{Has}
use Rattle.sctp_model.specs.messages.Format.{Lane}
use Rattle.sctp_model.specs.messages.Plan.{Message, Entry, End, Plan, entry_at, message_at, IsOf, IsClosed, parts_from}
use Rattle.sctp_model.specs.sender.SenderView.{Queued, SenderView}
use Rattle.sctp_model.specs.sender.Entries.{entry_lane}
use Rattle.sctp_safety.specs.Way.{Way, Move, Send, Name, Time_passes, Number, Continue, Withdraw, Abandon, Mark, Change_sending, Sack_comes, Shutdown_comes, Put_piece, Put_forward, Put_sack, Put_shutdown, Keep_piece, Drop_piece, Forward_comes, Hand_over, Hand_unordered, Pass_over, Drop_below_next, Let_go, Take, Note_duplicates, Step, Run, HasNone, IsAllClosed, numbered, with_next_part}
use Rattle.sctp_safety.specs.Exact.{Leads}
use Rattle.sctp_safety.proofs.lists.Basics.{Has-right, Has-around, at_lane_cases, item_at-left, item_at-cases, slice_get-left}
use Rattle.sctp_safety.proofs.plan.PlanLemmas.{parts_get}
use Rattle.sctp_safety.proofs.runs.Grown.{IsPrefix}

-- ---- what a move does to queue and plan

data IsTurnOf (w v : Way) : Type 0 where
  Tame : v.sender.plan ≡ w.sender.plan → v.sender.queue ≡ w.sender.queue → v.asked.calls ≡ w.asked.calls → IsTurnOf w v
  Called : length v.asked.calls ≡ suc (length w.asked.calls) → v.sender.plan ≡ w.sender.plan → IsTurnOf w v
  Numbered : (before : List Queued) (q : Queued) (rest : List Queued) (count : ℕ) → w.sender.queue ≡ before ++ q ∷ rest → v.sender.queue ≡ before ++ rest →
      v.sender.plan ≡ numbered w.sender.plan q.lane q.message count → v.asked.calls ≡ w.asked.calls → IsTurnOf w v
  Continued : (l : Lane) (n k count : ℕ) (m : Message) → message_at w.sender.plan l n ≡ Some m → (IsClosed w.sender.plan l n → ⊥) →
      v.sender.plan ≡ with_next_part w.sender.plan l n k count → v.sender.queue ≡ w.sender.queue → v.asked.calls ≡ w.asked.calls → IsTurnOf w v
  Left : (before : List Queued) (q : Queued) (rest : List Queued) → w.sender.queue ≡ before ++ q ∷ rest → v.sender.queue ≡ before ++ rest →
      v.sender.plan ≡ w.sender.plan → v.asked.calls ≡ w.asked.calls → IsTurnOf w v
  Ended : (l : Lane) (n : ℕ) (m : Message) → message_at w.sender.plan l n ≡ Some m → (IsClosed w.sender.plan l n → ⊥) →
      v.sender.plan ≡ record w.sender.plan { entries = w.sender.plan.entries ++ End l n ∷ [] } → v.sender.queue ≡ w.sender.queue → v.asked.calls ≡ w.asked.calls → IsTurnOf w v

-- and CUM doesn't go back
abbrev Turns : Way → Way → Type 0
Turns w v = IsTurnOf w v × (w.sender.cum ≤ v.sender.cum)

turned_to : (w u v : Way) → v ≡ u → Turns w u → Turns w v
turned_to w u v e h = subst (λ (z : Way). Turns w z) (sym e) h

one_more : {A : Type 0} (xs : List A) (x : A) → length (xs ++ x ∷ []) ≡ suc (length xs)
one_more [] x = refl
one_more (y ∷ ys) x = ap suc (one_more ys x)

turn_of : (w v : Way) (m : Move) → Step w m v → Turns w v
turn_of w v (Send c xs) (a, b, d, f, e) = turned_to w _ v e (Called (one_more w.asked.calls c) refl, le_refl w.sender.cum)
turn_of w v (Name t) e = turned_to w _ v e (Tame refl refl refl, le_refl w.sender.cum)
turn_of w v (Time_passes t) e = turned_to w _ v e (Tame refl refl refl, le_refl w.sender.cum)
turn_of w v (Number before q rest count) (queue, b, c, d, f, g, e) = turned_to w _ v e (Numbered before q rest count queue refl refl refl, le_refl w.sender.cum)
turn_of w v (Continue l n k count) (m, named, some, has, free, no_end, bound, e) = turned_to w _ v e (Continued l n (suc k) count m named unclosed refl refl refl, le_refl w.sender.cum)
  where
    unclosed : IsClosed w.sender.plan l n → ⊥
    unclosed (inl h) = no_end h
    unclosed (inr (x, (hx, each))) =
        let z : m ≡ x = cc (named, hx) in
        let y : length m.fragments ≡ length x.fragments = ap (λ (c : Message). length c.fragments) z in
        free (each (suc k) (omega (arith, bound, some)))
turn_of w v (Withdraw before q rest) (queue, why, e) = turned_to w _ v e (Left before q rest queue refl refl refl, le_refl w.sender.cum)
turn_of w v (Abandon l n) (m, a, b, e) = turned_to w _ v e (Tame refl refl refl, le_refl w.sender.cum)
turn_of w v (Mark l n) (m, named, gone, unclosed, e) = turned_to w _ v e (Ended l n m named unclosed refl refl refl, le_refl w.sender.cum)
turn_of w v (Change_sending b) (same, e) = turned_to w _ v e (Tame same.plan same.queue refl, let h = same.cum in omega (arith, h))
turn_of w v (Sack_comes x) (a, b, e) = turned_to w _ v e (Tame refl refl refl, b)
turn_of w v (Shutdown_comes c) (a, b, e) = turned_to w _ v e (Tame refl refl refl, b)
turn_of w v (Put_piece i) (l, n, k, m, a, b, e) = turned_to w _ v e (Tame refl refl refl, le_refl w.sender.cum)
turn_of w v (Put_forward x) (a, b, c, e) = turned_to w _ v e (Tame refl refl refl, le_refl w.sender.cum)
turn_of w v (Put_sack x) (a, e) = turned_to w _ v e (Tame refl refl refl, le_refl w.sender.cum)
turn_of w v (Put_shutdown c) (a, e) = turned_to w _ v e (Tame refl refl refl, le_refl w.sender.cum)
turn_of w v (Keep_piece x) (a, b, e) = turned_to w _ v e (Tame refl refl refl, le_refl w.sender.cum)
turn_of w v (Drop_piece x) (a, b, c, e) = turned_to w _ v e (Tame refl refl refl, le_refl w.sender.cum)
turn_of w v (Forward_comes x skip) (a, b, c, e) = turned_to w _ v e (Tame refl refl refl, le_refl w.sender.cum)
turn_of w v (Hand_over s x xs) (a, e) = turned_to w _ v e (Tame refl refl refl, le_refl w.sender.cum)
turn_of w v (Hand_unordered x xs) (a, b, c, e) = turned_to w _ v e (Tame refl refl refl, le_refl w.sender.cum)
turn_of w v (Pass_over s) (a, b, e) = turned_to w _ v e (Tame refl refl refl, le_refl w.sender.cum)
turn_of w v (Drop_below_next s) e = turned_to w _ v e (Tame refl refl refl, le_refl w.sender.cum)
turn_of w v (Let_go t) (a, e) = turned_to w _ v e (Tame refl refl refl, le_refl w.sender.cum)
turn_of w v (Take s x rest) (a, e) = turned_to w _ v e (Tame refl refl refl, le_refl w.sender.cum)
turn_of w v (Note_duplicates t) (a, e) = turned_to w _ v e (Tame refl refl refl, le_refl w.sender.cum)

-- ---- calls only grow

longer_by : (w v : Way) → IsTurnOf w v → length w.asked.calls ≤ length v.asked.calls
longer_by w v (Tame plan queue calls) = let h = ap length calls in omega (arith, h)
longer_by w v (Called more plan) = omega (arith, more)
longer_by w v (Numbered before q rest count queue left plan calls) = let h = ap length calls in omega (arith, h)
longer_by w v (Continued l n k count m named open_still plan queue calls) = let h = ap length calls in omega (arith, h)
longer_by w v (Left before q rest queue left plan calls) = let h = ap length calls in omega (arith, h)
longer_by w v (Ended l n m named open_still plan queue calls) = let h = ap length calls in omega (arith, h)

run_longer : (w v : Way) (ms : List Move) → Run w ms v → length w.asked.calls ≤ length v.asked.calls
run_longer w v [] e = let h = ap (λ (z : Way). length z.asked.calls) e in omega (arith, h)
run_longer w v (m ∷ ms) (mid, step, rest) =
    let a = longer_by w mid (turn_of w mid m step).0 in
    let b = run_longer mid v ms rest in
    omega (arith, a, b)

-- ---- CUM doesn't go back

run_cum : (w v : Way) (ms : List Move) → Run w ms v → w.sender.cum ≤ v.sender.cum
run_cum w v [] e = let h = ap (λ (z : Way). z.sender.cum) e in omega (arith, h)
run_cum w v (m ∷ ms) (mid, step, rest) =
    let a = (turn_of w mid m step).1 in
    let b = run_cum mid v ms rest in
    omega (arith, a, b)

pub cum_lasts : (w v : Way) → Leads w v → w.sender.cum ≤ v.sender.cum
cum_lasts w v (ms, run) = run_cum w v ms run

-- ---- a message that takes no further index

pub record IsOld (p : Plan) (c : ℕ) (l : Lane) (n : ℕ) : Type 0 where
  pub there : n < length (p.messages l)
  pub closed : IsClosed p l n
  pub upto : (i : ℕ) (e : Entry) → entry_at p i ≡ Some e → IsOf l n e → i ≤ c

-- the same message in a plan that is no shorter
closed_kept : (p q : Plan) (l : Lane) (n : ℕ) → IsPrefix p q → ((m : Message) → message_at p l n ≡ Some m → message_at q l n ≡ Some m) → IsClosed p l n → IsClosed q l n
closed_kept p q l n more named (inl (i, h)) = inl (i, more i _ h)
closed_kept p q l n more named (inr (m, (h, each))) = inr (m, (named m h, λ k b. let x = each k b in (x.0, more x.0 _ x.1)))

-- a plan of which another message took entries
old_beside : (p : Plan) (c : ℕ) (l : Lane) (n : ℕ) (messages : Lane → List Message) (new : List Entry) → IsOld p c l n →
    ((m : Message) → message_at p l n ≡ Some m → slice_get (messages l) n ≡ Some m) → n < length (messages l) →
    ((j : ℕ) (e : Entry) → slice_get new j ≡ Some e → IsOf l n e → ⊥) → IsOld (record { messages = messages; entries = p.entries ++ new }) c l n
old_beside p c l n messages new o named there other = record {
  there = there;
  closed = closed_kept p (record { messages = messages; entries = p.entries ++ new }) l n (λ i e h. item_at-left p.entries new i e h) named o.closed;
  upto = λ i e here own. elim (item_at-cases p.entries new i e here) [
    | inl before ↦ o.upto i e before own
    | inr behind ↦ absurd (other behind.0 e behind.2 own)
  ];
}

-- parts of a message are its own
own_part : (l k : Lane) (n o j count d : ℕ) (e : Entry) → slice_get (parts_from k o d count) j ≡ Some e → IsOf l n e → (k ≡ l) × (o ≡ n)
own_part l k n o j count d e h own = let is = (parts_get k o d count j e h).1 in subst (IsOf l n) (sym is) own

old_turn : (w v : Way) (c : ℕ) (l : Lane) (n : ℕ) → IsTurnOf w v → IsOld w.sender.plan c l n → IsOld v.sender.plan c l n
old_turn w v c l n (Tame plan queue calls) o = subst (λ (p : Plan). IsOld p c l n) (sym plan) o
old_turn w v c l n (Called more plan) o = subst (λ (p : Plan). IsOld p c l n) (sym plan) o
old_turn w v c l n (Numbered before q rest count queue left plan calls) o = subst (λ (p : Plan). IsOld p c l n) (sym plan)
    (old_beside p c l n (numbered p q.lane q.message count).messages (parts_from q.lane (length (p.messages q.lane)) 0 count) o
    (λ m h. at_lane_cases (λ (ms : List Message). slice_get ms n ≡ Some m) p.messages q.lane (p.messages q.lane ++ q.message ∷ []) l
    (λ e. slice_get-left (p.messages q.lane) (q.message ∷ []) n m (subst (λ (k : Lane). message_at p k n ≡ Some m) e h)) (λ ne. h))
    (at_lane_cases (λ (ms : List Message). n < length ms) p.messages q.lane (p.messages q.lane ++ q.message ∷ []) l
    (λ e. let a = one_more (p.messages q.lane) q.message in let b = subst (λ (k : Lane). n < length (p.messages k)) e o.there in omega (arith, a, b)) (λ ne. o.there))
    (λ j e h own. let same = own_part l q.lane n (length (p.messages q.lane)) j count 0 e h own in
    let b = subst (λ (k : Lane). n < length (p.messages k)) (sym same.0) o.there in let a = same.1 in absurd (omega (arith, a, b))))
  where
    p : Plan
    p = w.sender.plan
old_turn w v c l n (Continued k o d count m named unclosed plan queue calls) old = subst (λ (p : Plan). IsOld p c l n) (sym plan)
    (old_beside w.sender.plan c l n w.sender.plan.messages (parts_from k o d count) old (λ x h. h) old.there
    (λ j e h own. let same = own_part l k n o j count d e h own in
    unclosed (subst (λ (x : Lane). IsClosed w.sender.plan x o) (sym same.0) (subst (λ (x : ℕ). IsClosed w.sender.plan l x) (sym same.1) old.closed))))
old_turn w v c l n (Left before q rest queue left plan calls) o = subst (λ (p : Plan). IsOld p c l n) (sym plan) o
old_turn w v c l n (Ended k o m named unclosed plan queue calls) old = subst (λ (p : Plan). IsOld p c l n) (sym plan)
    (old_beside w.sender.plan c l n w.sender.plan.messages (End k o ∷ []) old (λ x h. h) old.there other)
  where
    other : (j : ℕ) (e : Entry) → slice_get (End k o ∷ []) j ≡ Some e → IsOf l n e → ⊥
    other zero e h own =
        let is : End k o ≡ e = cc in
        let same : (k ≡ l) × (o ≡ n) = subst (IsOf l n) (sym is) own in
        unclosed (subst (λ (x : Lane). IsClosed w.sender.plan x o) (sym same.0) (subst (λ (x : ℕ). IsClosed w.sender.plan l x) (sym same.1) old.closed))
    other (suc j) e h own = absurd (cc)

run_old : (w v : Way) (ms : List Move) (c : ℕ) (l : Lane) (n : ℕ) → Run w ms v → IsOld w.sender.plan c l n → IsOld v.sender.plan c l n
run_old w v [] c l n e o = subst (λ (z : Way). IsOld z.sender.plan c l n) (sym e) o
run_old w v (m ∷ ms) c l n (mid, step, rest) o = run_old mid v ms c l n rest (old_turn w mid c l n (turn_of w mid m step).0 o)

pub old_lasts : (w v : Way) (c : ℕ) (l : Lane) (n : ℕ) → Leads w v → IsOld w.sender.plan c l n → IsOld v.sender.plan c l n
old_lasts w v c l n (ms, run) o = run_old w v ms c l n run o

-- ---- a still stream

pub record IsStill (a : SenderView) (s : ℕ) : Type 0 where
  pub queue : HasNone a.queue s
  pub closed : IsAllClosed a.plan s

-- the stream is as it was
pub record IsAsStill (s : ℕ) (a b : SenderView) : Type 0 where
  pub still : IsStill b s
  pub messages : (l : Lane) → l.stream ≡ s → b.plan.messages l ≡ a.plan.messages l
  pub entries : (i : ℕ) (e : Entry) → entry_at b.plan i ≡ Some e → (entry_lane e).stream ≡ s → entry_at a.plan i ≡ Some e

as_still : (s : ℕ) (a : SenderView) → IsStill a s → IsAsStill s a a
as_still s a h = record { still = h; messages = λ l on. refl; entries = λ i e here on. here }

as_still_on : (s : ℕ) (a b c : SenderView) → IsAsStill s a b → IsAsStill s b c → IsAsStill s a c
as_still_on s a b c h k = record {
  still = k.still;
  messages = λ l on. k.messages l on ∙ h.messages l on;
  entries = λ i e here on. h.entries i e (k.entries i e here on) on;
}

-- the same plan, and no message more that waits
pub fewer_wait : (s : ℕ) (a b : SenderView) → b.plan ≡ a.plan → HasNone b.queue s → IsStill a s → IsAsStill s a b
fewer_wait s a b plan none h = record {
  still = record { queue = none; closed = subst (λ (p : Plan). IsAllClosed p s) (sym plan) h.closed };
  messages = λ l on. ap (λ (p : Plan). p.messages l) plan;
  entries = λ i e here on. subst (λ (p : Plan). entry_at p i ≡ Some e) plan here;
}

-- entries of another stream
still_beside : (s : ℕ) (a b : SenderView) (messages : Lane → List Message) (new : List Entry) → b.plan ≡ record { messages = messages; entries = a.plan.entries ++ new } →
    ((l : Lane) → l.stream ≡ s → messages l ≡ a.plan.messages l) → ((j : ℕ) (e : Entry) → slice_get new j ≡ Some e → (entry_lane e).stream ≡ s → ⊥) → HasNone b.queue s →
    IsStill a s → IsAsStill s a b
still_beside s a b messages new plan same other none h = record {
  still = record { queue = none; closed = subst (λ (p : Plan). IsAllClosed p s) (sym plan) closed };
  messages = λ l on. ap (λ (p : Plan). p.messages l) plan ∙ same l on;
  entries = λ i e here on. elim (item_at-cases a.plan.entries new i e (subst (λ (p : Plan). entry_at p i ≡ Some e) plan here)) [
    | inl before ↦ before
    | inr behind ↦ absurd (other behind.0 e behind.2 on)
  ];
}
  where
    closed : IsAllClosed (record { messages = messages; entries = a.plan.entries ++ new }) s
    closed l n m on named =
        let before : message_at a.plan l n ≡ Some m = subst (λ (ms : List Message). slice_get ms n ≡ Some m) (same l on) named in
        closed_kept a.plan (record { messages = messages; entries = a.plan.entries ++ new }) l n (λ i e k. item_at-left a.plan.entries new i e k)
        (λ x k. subst (λ (ms : List Message). slice_get ms n ≡ Some x) (sym (same l on)) k) (h.closed l n m on before)

part_lane : (k : Lane) (o d count j : ℕ) (e : Entry) → slice_get (parts_from k o d count) j ≡ Some e → entry_lane e ≡ k
part_lane k o d count j e h = ap entry_lane (sym (parts_get k o d count j e h).1)

still_turn : (w v : Way) (s : ℕ) → IsTurnOf w v → length v.asked.calls ≡ length w.asked.calls → IsStill w.sender s → IsAsStill s w.sender v.sender
still_turn w v s (Tame plan queue calls) same h = fewer_wait s w.sender v.sender plan (subst (λ (qs : List Queued). HasNone qs s) (sym queue) h.queue) h
still_turn w v s (Called more plan) same h = absurd (omega (arith, more, same))
still_turn w v s (Numbered before q rest count queue left plan calls) same h =
    still_beside s w.sender v.sender (numbered w.sender.plan q.lane q.message count).messages (parts_from q.lane (length (w.sender.plan.messages q.lane)) 0 count) plan
    (λ l on. at_lane_cases (λ (ms : List Message). ms ≡ w.sender.plan.messages l) w.sender.plan.messages q.lane (w.sender.plan.messages q.lane ++ q.message ∷ []) l
    (λ e. absurd (other (ap (λ (k : Lane). k.stream) (sym e) ∙ on))) (λ ne. refl))
    (λ j e here on. other (ap (λ (k : Lane). k.stream) (sym (part_lane q.lane (length (w.sender.plan.messages q.lane)) 0 count j e here)) ∙ on))
    (λ x has. h.queue x (subst (λ (qs : List Queued). Has qs x) (sym queue) (Has-around before rest q x (subst (λ (qs : List Queued). Has qs x) left has)))) h
  where
    other : q.lane.stream ≡ s → ⊥
    other on = h.queue q (subst (λ (qs : List Queued). Has qs q) (sym queue) (Has-right before (q ∷ rest) q (inl refl))) on
still_turn w v s (Continued l n k count m named unclosed plan queue calls) same h =
    still_beside s w.sender v.sender w.sender.plan.messages (parts_from l n k count) plan (λ x on. refl)
    (λ j e here on. unclosed (h.closed l n m (ap (λ (x : Lane). x.stream) (sym (part_lane l n k count j e here)) ∙ on) named))
    (subst (λ (qs : List Queued). HasNone qs s) (sym queue) h.queue) h
still_turn w v s (Left before q rest queue left plan calls) same h =
    fewer_wait s w.sender v.sender plan (λ x has. h.queue x (subst (λ (qs : List Queued). Has qs x) (sym queue) (Has-around before rest q x (subst (λ (qs : List Queued). Has qs x) left has)))) h
still_turn w v s (Ended l n m named unclosed plan queue calls) same h =
    still_beside s w.sender v.sender w.sender.plan.messages (End l n ∷ []) plan (λ x on. refl) other (subst (λ (qs : List Queued). HasNone qs s) (sym queue) h.queue) h
  where
    other : (j : ℕ) (e : Entry) → slice_get (End l n ∷ []) j ≡ Some e → (entry_lane e).stream ≡ s → ⊥
    other zero e here on = let is : End l n ≡ e = cc in unclosed (h.closed l n m (ap (λ (x : Entry). (entry_lane x).stream) is ∙ on) named)
    other (suc j) e here on = absurd (cc)

run_still : (w v : Way) (ms : List Move) (s : ℕ) → Run w ms v → length v.asked.calls ≡ length w.asked.calls → IsStill w.sender s → IsAsStill s w.sender v.sender
run_still w v [] s e same h = subst (λ (z : Way). IsAsStill s w.sender z.sender) (sym e) (as_still s w.sender h)
run_still w v (m ∷ ms) s (mid, step, rest) same h =
    let turn = (turn_of w mid m step).0 in
    let a = longer_by w mid turn in
    let b = run_longer mid v ms rest in
    let first : length mid.asked.calls ≡ length w.asked.calls = omega (arith, a, b, same) in
    let one = still_turn w mid s turn first h in
    as_still_on s w.sender mid.sender v.sender one (run_still mid v ms s rest (omega (arith, a, b, same)) one.still)

-- Where moves lead without a call, a still stream is as it was.
pub still_lasts : (w v : Way) (s : ℕ) → Leads w v → v.asked.calls ≡ w.asked.calls → IsStill w.sender s → IsAsStill s w.sender v.sender
still_lasts w v s (ms, run) calls h = run_still w v ms s run (ap length calls) h
