-- What else the sender does keeps every fact: a message is withdrawn or abandoned, chunks go out, the peer acknowledges.
use Rattle.std.proofs.Common.{◌≡◌, ℕ, ◌≤◌, ◌⊎◌, ◌||◌, Bool, true, List, ◌++◌, Some, nat_le, inl, inr, refl, sym, subst, le_refl}
use Rattle.std.proofs.lemmas.Bool.{or_left, or_cases, le-leb, leb-true}
use Rattle.sctp_model.specs.numbers.Lists.{at}
use Rattle.sctp_model.specs.messages.Format.{Lane, at_lane}
use Rattle.sctp_model.specs.messages.Plan.{Message, End, Plan, entry_at, message_at}
use Rattle.sctp_model.specs.sender.SenderView.{Queued, SenderView}
use Rattle.sctp_model.specs.messages.Acknowledgement.{Acknowledgement, covers, in_blocks}
use Rattle.sctp_model.specs.receiver.ReceiverView.{Reaches}
use Rattle.sctp_model.specs.world.Safe.{IsGivenUp}
use Rattle.sctp_safety.specs.Way.{Way, Withdraw, Abandon, Change_sending, Sack_comes, Shutdown_comes, Step, with_sender}
use Rattle.sctp_safety.proofs.lists.Basics.{at_cases, at_lane_cases}
use Rattle.sctp_safety.proofs.moves.Facts.{IsOrderedPlan, Waits, Good}
use Rattle.sctp_safety.proofs.moves.Later.{Grows, IsGivenUp-later}
use Rattle.sctp_safety.proofs.moves.MovesBySide.{by_sender}
use Rattle.sctp_safety.proofs.plan.PlanLemmas.{renamed}
use Rattle.sctp_safety.proofs.plan.QueueLemmas.{waits_without}

pub kept_by-Withdraw : (w v : Way) (before : List Queued) (q : Queued) (rest : List Queued) →
    Good w → Step w (Withdraw before q rest) v → Good v
kept_by-Withdraw w v before q rest g (queue, why, e) = subst Good (sym e)
    (by_sender w (record w.sender { queue = before ++ rest }) w.asked g
    (record { plan = record { entries = λ i x h. h; messages = λ l n m h. h }; abandoned = λ l n h. h; repeats = λ i. le_refl (w.sender.repeats i) })
    g.arranged
    (waits_without w.streams w.sender.plan w.asked before q rest (subst (λ (qs : List Queued). Waits w.streams w.sender.plan w.asked qs) queue g.waits))
    (record { streamed = g.sound.streamed; called = g.sound.called; abandoned = g.sound.abandoned; ended = g.sound.ended })
    g.between.covered g.between.cum)

pub kept_by-Abandon : (w v : Way) (l : Lane) (n : ℕ) → Good w → Step w (Abandon l n) v → Good v
kept_by-Abandon w v l n g (m, named, asked, e) = subst Good (sym e)
    (by_sender w b w.asked g (record { plan = record { entries = λ i x h. h; messages = λ k o x h. h }; abandoned = more; repeats = λ i. le_refl (w.sender.repeats i) })
    g.arranged g.waits
    (record {
      streamed = g.sound.streamed;
      called = g.sound.called;
      abandoned = gone;
      ended = λ i k o h. more k o (g.sound.ended i k o h);
    })
    g.between.covered g.between.cum)
  where
    old : Lane → ℕ → Bool
    old = w.sender.abandoned

    b : SenderView
    b = record w.sender { abandoned = at_lane old l (at (old l) n true) }

    more : (k : Lane) (o : ℕ) → old k o ≡ true → b.abandoned k o ≡ true
    more k o h = at_lane_cases (λ (f : ℕ → Bool). f o ≡ true) old l (at (old l) n true) k
        (λ s. at_cases (λ (x : Bool). x ≡ true) (old l) n true o (λ t. refl) (λ ne. subst (λ (c : Lane). old c o ≡ true) s h)) (λ ne. h)

    Asked_for : Lane → ℕ → Type 0
    Asked_for k o = (x : Message) × (message_at w.sender.plan k o ≡ Some x) × IsGivenUp w.sender w.asked k o x

    gone : (k : Lane) (o : ℕ) → b.abandoned k o ≡ true → Asked_for k o
    gone k o = at_lane_cases (λ (f : ℕ → Bool). f o ≡ true → Asked_for k o) old l (at (old l) n true) k
        (λ s. at_cases (λ (x : Bool). x ≡ true → Asked_for k o) (old l) n true o
        (λ t h. renamed Asked_for l k n o (sym s) (sym t) (m, named, asked))
        (λ ne h. g.sound.abandoned k o (subst (λ (c : Lane). old c o ≡ true) (sym s) h)))
        (λ ne h. g.sound.abandoned k o h)

pub kept_by-Change_sending : (w v : Way) (b : SenderView) → Good w → Step w (Change_sending b) v → Good v
kept_by-Change_sending w v b g (same, e) = subst Good (sym e)
    (by_sender w b w.asked g
    grows
    (subst (λ (p : Plan). IsOrderedPlan w.format p) (sym same.plan) g.arranged)
    (subst (λ (p : Plan). Waits w.streams p w.asked b.queue) (sym same.plan)
    (subst (λ (qs : List Queued). Waits w.streams a.plan w.asked qs) (sym same.queue) g.waits))
    (record {
      streamed = λ l n m h. g.sound.streamed l n m (message l n m h);
      called = λ l n m h. g.sound.called l n m (message l n m h);
      abandoned = λ l n h. let r = g.sound.abandoned l n (gone l n h) in (r.0, subst (λ (p : Plan). message_at p l n ≡ Some r.0) (sym same.plan) r.1, IsGivenUp-later a b w.asked l n r.0 grows r.2);
      ended = λ i l n h. abandoned l n true (g.sound.ended i l n (subst (λ (p : Plan). entry_at p i ≡ Some (End l n)) same.plan h));
    })
    (λ i h. g.between.covered i (subst (λ (f : ℕ → Bool). f i ≡ true) same.covered h))
    (λ i h. g.between.cum i (subst (λ (c : ℕ). i ≤ c) same.cum h)))
  where
    a : SenderView
    a = w.sender

    grows : Grows w.sender b
    grows = record {
      plan = record {
        entries = λ i x h. subst (λ (p : Plan). entry_at p i ≡ Some x) (sym same.plan) h;
        messages = λ l n m h. subst (λ (p : Plan). message_at p l n ≡ Some m) (sym same.plan) h;
      };
      abandoned = λ l n h. subst (λ (f : Lane → ℕ → Bool). f l n ≡ true) (sym same.abandoned) h;
      repeats = same.repeats;
    }

    abandoned : (l : Lane) (n : ℕ) (x : Bool) → a.abandoned l n ≡ x → b.abandoned l n ≡ x
    abandoned l n x h = subst (λ (f : Lane → ℕ → Bool). f l n ≡ x) (sym same.abandoned) h

    gone : (l : Lane) (n : ℕ) → b.abandoned l n ≡ true → a.abandoned l n ≡ true
    gone l n h = subst (λ (f : Lane → ℕ → Bool). f l n ≡ true) same.abandoned h

    message : (l : Lane) (n : ℕ) (m : Message) → message_at b.plan l n ≡ Some m → message_at a.plan l n ≡ Some m
    message l n m h = subst (λ (p : Plan). message_at p l n ≡ Some m) same.plan h

-- the peer acknowledged
acknowledges : (w : Way) (c : ℕ) (covered : ℕ → Bool) → Good w → ((i : ℕ) → covered i ≡ true → Reaches w.receiver i) →
    ((i : ℕ) → i ≤ c → Reaches w.receiver i) → Good (with_sender w (record w.sender { cum = c; covered = covered }))
acknowledges w c covered g reached upto = by_sender w (record w.sender { cum = c; covered = covered }) w.asked g
    (record { plan = record { entries = λ i x h. h; messages = λ l n m h. h }; abandoned = λ l n h. h; repeats = λ i. le_refl (w.sender.repeats i) })
    g.arranged g.waits
    (record { streamed = g.sound.streamed; called = g.sound.called; abandoned = g.sound.abandoned; ended = g.sound.ended })
    reached upto

pub kept_by-Sack_comes : (w v : Way) (x : Acknowledgement) → Good w → Step w (Sack_comes x) v → Good v
kept_by-Sack_comes w v x g (here, le, e) = subst Good (sym e)
    (acknowledges w x.cum (covers x) g (λ i h. g.between.sacks x i here h) (λ i b. g.between.sacks x i here (upto i b)))
  where
    upto : (i : ℕ) → i ≤ x.cum → covers x i ≡ true
    upto i b = or_left (nat_le i x.cum) (in_blocks x.cum x.blocks i) (le-leb i x.cum b)

pub kept_by-Shutdown_comes : (w v : Way) (cum : ℕ) → Good w → Step w (Shutdown_comes cum) v → Good v
kept_by-Shutdown_comes w v cum g (here, le, e) = subst Good (sym e)
    (acknowledges w cum (λ i. nat_le i cum || w.sender.covered i) g (λ i h. reached i (or_cases (nat_le i cum) (w.sender.covered i) h))
    (λ i b. g.between.shutdowns cum i here b))
  where
    reached : (i : ℕ) → (nat_le i cum ≡ true) ⊎ (w.sender.covered i ≡ true) → Reaches w.receiver i
    reached i (inl h) = g.between.shutdowns cum i here (leb-true i cum h)
    reached i (inr h) = g.between.covered i h
