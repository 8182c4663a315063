-- Every move keeps each accepted message in its place: it waits, it has its number, or its user gave it up.
use Rattle.std.proofs.Common.{◌≡◌, ℕ, zero, suc, ◌+◌, ◌≤◌, ◌⊎◌, max, Bool, true, List, [], ◌∷◌, ◌++◌, length, slice_get, Some, inl, inr, refl, sym, subst, ap, arith, ◌∙◌}
use Rattle.sctp_model.specs.numbers.Lists.{Has, item_at, at}
use Rattle.sctp_model.specs.messages.Format.{Lane, at_lane}
use Rattle.sctp_model.specs.messages.Plan.{Message, Plan, bytes_of, message_at}
use Rattle.sctp_model.specs.sender.SenderView.{Queued}
use Rattle.sctp_model.specs.world.Calls.{Call, Asked, call_at}
use Rattle.sctp_safety.specs.Way.{Way, Move, IsLetGo, Send, Name, Time_passes, Number, Continue, Withdraw, Abandon, Mark, Change_sending, Sack_comes, Shutdown_comes, Put_piece, Put_forward, Put_sack, Put_shutdown, Keep_piece, Drop_piece, Forward_comes, Hand_over, Hand_unordered, Pass_over, Drop_below_next, Let_go, Take, Note_duplicates, Step, Run, numbered, with_sender}
use Rattle.sctp_safety.specs.Placed.{IsPlaced, IsQueued, IsNumbered, WasNamed, WasLate, AllArePlaced, PlacedAlways}
use Rattle.sctp_safety.proofs.lists.Basics.{Has-left, Has-right, Has-cases, item_at-cases, slice_get-left, slice_get-end, at_cases, at_lane_cases, at_lane_same}
use Rattle.sctp_safety.proofs.moves.Facts.{IsCalled, Good}
use Rattle.sctp_safety.proofs.moves.GoodStart.{good_start}
use Rattle.sctp_safety.proofs.moves.Always.{kept_by-Step}

-- ---- what stays in its place

-- What waits still waits, or has its number, or was given up; what has its number has it still; what was given up was.
pub record IsOnward (w v : Way) : Type 0 where
  pub calls : v.asked.calls ≡ w.asked.calls
  pub queue : (q : Queued) (c : Call) → Has w.sender.queue q → call_at w.asked q.message.ticket ≡ Some c → IsPlaced v.sender v.asked q.message.ticket c
  pub messages : (l : Lane) (n : ℕ) (m : Message) → message_at w.sender.plan l n ≡ Some m → message_at v.sender.plan l n ≡ Some m
  pub named : (t : ℕ) → w.asked.named t ≡ true → v.asked.named t ≡ true
  pub clock : w.asked.clock ≤ v.asked.clock

onward : (w v : Way) → IsOnward w v → AllArePlaced w.sender w.asked → AllArePlaced v.sender v.asked
onward w v o all t c at = go (all t c before)
  where
    before : call_at w.asked t ≡ Some c
    before = subst (λ (cs : List Call). item_at cs t ≡ Some c) o.calls at

    go : IsPlaced w.sender w.asked t c → IsPlaced v.sender v.asked t c
    go (IsQueued q has ticket) =
        subst (λ (k : ℕ). IsPlaced v.sender v.asked k c) ticket (o.queue q c has (subst (λ (k : ℕ). call_at w.asked k ≡ Some c) (sym ticket) before))
    go (IsNumbered l n m named ticket) = IsNumbered l n m (o.messages l n m named) ticket
    go (WasNamed named) = WasNamed (o.named t named)
    go (WasLate k until late) = WasLate k until (let more = o.clock in omega (arith, late, more))

-- the sender's queue and messages are the same, and the user asked for nothing
tame : (w v : Way) → v.sender.queue ≡ w.sender.queue → v.sender.plan.messages ≡ w.sender.plan.messages → v.asked ≡ w.asked → IsOnward w v
tame w v queue messages asked = record {
  calls = ap (λ (u : Asked). u.calls) asked;
  queue = λ q c has called. IsQueued q (subst (λ (qs : List Queued). Has qs q) (sym queue) has) refl;
  messages = λ l n m named. subst (λ (ms : Lane → List Message). slice_get (ms l) n ≡ Some m) (sym messages) named;
  named = λ t named. subst (λ (u : Asked). u.named t ≡ true) (sym asked) named;
  clock = (let same = ap (λ (u : Asked). u.clock) asked in omega (arith, same));
}

abbrev Stays : Way → Way → Type 0
Stays w v = AllArePlaced w.sender w.asked → AllArePlaced v.sender v.asked

to : (w u v : Way) → v ≡ u → Stays w u → Stays w v
to w u v e stays = subst (λ (x : Way). Stays w x) (sym e) stays

same : (w u v : Way) → v ≡ u → u.sender.queue ≡ w.sender.queue → u.sender.plan.messages ≡ w.sender.plan.messages → u.asked ≡ w.asked → Stays w v
same w u v e queue messages asked = to w u v e (onward w u (tame w u queue messages asked))

-- ---- the moves that change it

-- a message is accepted, and waits
sends : (w : Way) (c : Call) (q : Queued) → q.message.ticket ≡ suc (length w.asked.calls) →
    Stays w (record w { sender = record w.sender { queue = w.sender.queue ++ q ∷ [] }; asked = record w.asked { calls = w.asked.calls ++ c ∷ [] } })
sends w c q next all t d at = by_place (item_at-cases w.asked.calls (c ∷ []) t d at)
  where
    old : IsPlaced w.sender w.asked t d → IsPlaced (record w.sender { queue = w.sender.queue ++ q ∷ [] }) (record w.asked { calls = w.asked.calls ++ c ∷ [] }) t d
    old (IsQueued x has ticket) = IsQueued x (Has-left w.sender.queue (q ∷ []) x has) ticket
    old (IsNumbered l n m named ticket) = IsNumbered l n m named ticket
    old (WasNamed named) = WasNamed named
    old (WasLate k until late) = WasLate k until late

    new : (j : ℕ) → t ≡ suc (length w.asked.calls) + j → slice_get (c ∷ []) j ≡ Some d → IsPlaced (record w.sender { queue = w.sender.queue ++ q ∷ [] }) (record w.asked { calls = w.asked.calls ++ c ∷ [] }) t d
    new zero is there = IsQueued q (Has-right w.sender.queue (q ∷ []) q (inl refl)) (omega (arith, is, next))
    new (suc j) is there = absurd (cc)

    by_place : (item_at w.asked.calls t ≡ Some d) ⊎ ((j : ℕ) × (t ≡ suc (length w.asked.calls) + j) × (slice_get (c ∷ []) j ≡ Some d))
        → IsPlaced (record w.sender { queue = w.sender.queue ++ q ∷ [] }) (record w.asked { calls = w.asked.calls ++ c ∷ [] }) t d
    by_place (inl before) = old (all t d before)
    by_place (inr (j, is, there)) = new j is there

-- one of the queue goes, the others stay
rest_or : (before : List Queued) (q : Queued) (rest : List Queued) (x : Queued) → Has (before ++ q ∷ rest) x → (q ≡ x) ⊎ Has (before ++ rest) x
rest_or before q rest x has = by_place (Has-cases before (q ∷ rest) x has)
  where
    by_place : Has before x ⊎ Has (q ∷ rest) x → (q ≡ x) ⊎ Has (before ++ rest) x
    by_place (inl left) = inr (Has-left before rest x left)
    by_place (inr (inl own)) = inl own
    by_place (inr (inr right)) = inr (Has-right before rest x right)

-- the messages with one more
still_named : (p : Plan) (k : Lane) (m : Message) (l : Lane) (n : ℕ) (x : Message) → message_at p l n ≡ Some x → slice_get (at_lane p.messages k (p.messages k ++ m ∷ []) l) n ≡ Some x
still_named p k m l n x named =
    at_lane_cases (λ (ms : List Message). slice_get ms n ≡ Some x) p.messages k (p.messages k ++ m ∷ []) l
    (λ own. slice_get-left (p.messages k) (m ∷ []) n x (subst (λ (j : Lane). slice_get (p.messages j) n ≡ Some x) own named)) (λ other. named)

-- a message takes its number
numbers : (w : Way) (before : List Queued) (q : Queued) (rest : List Queued) (count : ℕ) → w.sender.queue ≡ before ++ q ∷ rest →
    Stays w (with_sender w (record w.sender { queue = before ++ rest; plan = numbered w.sender.plan q.lane q.message count }))
numbers w before q rest count queue = onward w u (record {
  calls = refl;
  queue = λ x c has called. by_place x c (rest_or before q rest x (subst (λ (qs : List Queued). Has qs x) queue has));
  messages = λ l n m named. still_named p q.lane q.message l n m named;
  named = λ t named. named;
  clock = omega arith;
})
  where
    p : Plan
    p = w.sender.plan

    u : Way
    u = with_sender w (record w.sender { queue = before ++ rest; plan = numbered p q.lane q.message count })

    its : message_at (numbered p q.lane q.message count) q.lane (length (p.messages q.lane)) ≡ Some q.message
    its = subst (λ (ms : List Message). slice_get ms (length (p.messages q.lane)) ≡ Some q.message) (sym (at_lane_same p.messages q.lane (p.messages q.lane ++ q.message ∷ []))) (slice_get-end (p.messages q.lane) q.message)

    by_place : (x : Queued) (c : Call) → (q ≡ x) ⊎ Has (before ++ rest) x → IsPlaced u.sender u.asked x.message.ticket c
    by_place x c (inl own) = IsNumbered q.lane (length (p.messages q.lane)) q.message its (ap (λ (y : Queued). y.message.ticket) own)
    by_place x c (inr other) = IsQueued x other refl

-- a message that was given up leaves the queue
withdraws : (w : Way) (before : List Queued) (q : Queued) (rest : List Queued) → Good w → w.sender.queue ≡ before ++ q ∷ rest → IsLetGo w.asked q.message →
    Stays w (with_sender w (record w.sender { queue = before ++ rest }))
withdraws w before q rest g queue why = onward w u (record {
  calls = refl;
  queue = λ x c has called. by_place x c called (rest_or before q rest x (subst (λ (qs : List Queued). Has qs x) queue has));
  messages = λ l n m named. named;
  named = λ t named. named;
  clock = omega arith;
})
  where
    u : Way
    u = with_sender w (record w.sender { queue = before ++ rest })

    own_call : IsCalled w.asked q.lane q.message
    own_call = g.waits.called q (subst (λ (qs : List Queued). Has qs q) (sym queue) (Has-right before (q ∷ rest) q (inl refl)))

    given : (c : Call) → call_at w.asked q.message.ticket ≡ Some c → IsLetGo w.asked q.message → IsPlaced u.sender u.asked q.message.ticket c
    given c called (inl named) = WasNamed named
    given c called (inr (k, until, late)) =
        let mine = own_call in
        let one : record { lane = q.lane; payload = q.message.payload; bytes = bytes_of q.message; until = q.message.until; limit = q.message.limit } ≡ c = cc in
        WasLate k (sym (ap (λ (x : Call). x.until) one) ∙ until) late

    by_place : (x : Queued) (c : Call) → call_at w.asked x.message.ticket ≡ Some c → (q ≡ x) ⊎ Has (before ++ rest) x → IsPlaced u.sender u.asked x.message.ticket c
    by_place x c called (inl own) =
        subst (λ (y : Queued). IsPlaced u.sender u.asked y.message.ticket c) own (given c (subst (λ (y : Queued). call_at w.asked y.message.ticket ≡ Some c) (sym own) called) why)
    by_place x c called (inr other) = IsQueued x other refl

-- the user names a ticket, or time goes on
asks : (w : Way) (u : Asked) → u.calls ≡ w.asked.calls → ((t : ℕ) → w.asked.named t ≡ true → u.named t ≡ true) → w.asked.clock ≤ u.clock → Stays w (record w { asked = u })
asks w u calls named clock = onward w (record w { asked = u }) (record {
  calls = calls;
  queue = λ q c has called. IsQueued q has refl;
  messages = λ l n m there. there;
  named = named;
  clock = clock;
})

-- ---- every move

moves_on : (w v : Way) (e : Move) → Good w → Step w e v → Stays w v
moves_on w v (Send c xs) g (a, b, d, f, e) = to w _ v e (sends w c _ refl)
moves_on w v (Name t) g e =
    to w _ v e (asks w _ refl (λ k named. at_cases (λ (b : Bool). b ≡ true) w.asked.named t true k (λ own. refl) (λ other. named)) (omega arith))
moves_on w v (Time_passes t) g e = to w _ v e (asks w (record w.asked { clock = max w.asked.clock t }) refl (λ k named. named) (omega arith))
moves_on w v (Number before q rest count) g (queue, b, c, d, f, i, e) = to w _ v e (numbers w before q rest count queue)
moves_on w v (Continue l n k count) g (m, a, b, c, d, f, i, e) = same w _ v e refl refl refl
moves_on w v (Withdraw before q rest) g (queue, why, e) = to w _ v e (withdraws w before q rest g queue why)
moves_on w v (Abandon l n) g (m, a, b, e) = same w _ v e refl refl refl
moves_on w v (Mark l n) g (m, a, b, c, e) = same w _ v e refl refl refl
moves_on w v (Change_sending b) g (kept, e) = same w _ v e kept.queue (ap (λ (p : Plan). p.messages) kept.plan) refl
moves_on w v (Sack_comes x) g (a, b, e) = same w _ v e refl refl refl
moves_on w v (Shutdown_comes c) g (a, b, e) = same w _ v e refl refl refl
moves_on w v (Put_piece i) g (l, n, k, m, a, b, e) = same w _ v e refl refl refl
moves_on w v (Put_forward x) g (a, b, c, e) = same w _ v e refl refl refl
moves_on w v (Put_sack x) g (a, e) = same w _ v e refl refl refl
moves_on w v (Put_shutdown c) g (a, e) = same w _ v e refl refl refl
moves_on w v (Keep_piece x) g (a, b, e) = same w _ v e refl refl refl
moves_on w v (Drop_piece x) g (a, b, c, e) = same w _ v e refl refl refl
moves_on w v (Forward_comes x skip) g (a, b, c, e) = same w _ v e refl refl refl
moves_on w v (Hand_over s x xs) g (a, e) = same w _ v e refl refl refl
moves_on w v (Hand_unordered x xs) g (a, b, c, e) = same w _ v e refl refl refl
moves_on w v (Pass_over s) g (a, b, e) = same w _ v e refl refl refl
moves_on w v (Drop_below_next s) g e = same w _ v e refl refl refl
moves_on w v (Let_go t) g (a, e) = same w _ v e refl refl refl
moves_on w v (Take s x rest) g (a, e) = same w _ v e refl refl refl
moves_on w v (Note_duplicates t) g (a, e) = same w _ v e refl refl refl

runs_on : (w v : Way) (es : List Move) → Good w → Run w es v → Stays w v
runs_on w v [] g h = subst (λ (x : Way). Stays w x) (sym h) (λ all. all)
runs_on w v (e ∷ es) g (mid, step, rest) = λ all. runs_on mid v es (kept_by-Step w mid e g step) rest (moves_on w mid e g step all)

-- at the start nothing was accepted
none_called : (u : Asked) (t : ℕ) (c : Call) → u.calls ≡ [] → call_at u t ≡ Some c → ⊥
none_called u zero c none at = absurd (cc)
none_called u (suc t) c none at = absurd (let nothing : slice_get [] t ≡ Some c = subst (λ (cs : List Call). slice_get cs t ≡ Some c) none at in cc)

pub placed_always : PlacedAlways
placed_always w v es start run = runs_on w v es (good_start w start) run (λ t c at. absurd (none_called w.asked t c start.calls at))
