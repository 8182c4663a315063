-- What the plan gains keeps every fact: a message takes its number and first indexes, goes on with further ones, is ended.
use Rattle.std.proofs.Common.{◌≡◌, ℕ, zero, suc, ◌+◌, ◌<◌, ◌⊎◌, true, List, [], ◌∷◌, ◌++◌, length, slice_get, Some, inl, inr, refl, sym, subst, ap, arith, le_refl}
use Rattle.sctp_model.specs.numbers.Lists.{Has}
use Rattle.sctp_model.specs.messages.Format.{Lane}
use Rattle.sctp_model.specs.messages.Plan.{Message, Entry, Part, End, Plan, entry_at, message_at, IsAssigned, HasEnd, IsClosed, parts_from}
use Rattle.sctp_model.specs.sender.SenderView.{Queued, SenderView}
use Rattle.sctp_safety.specs.Way.{Way, Number, Continue, Mark, Step, numbered, with_sender}
use Rattle.sctp_safety.proofs.lists.Basics.{slice_get-within, Has-cases, Has-right, item_at-left, item_at-cases}
use Rattle.sctp_safety.proofs.moves.Facts.{IsOrderedPlan, IsCalled, Waits, Good}
use Rattle.sctp_safety.proofs.moves.Later.{Grows, IsGivenUp-later}
use Rattle.sctp_safety.proofs.moves.MovesBySide.{by_sender}
use Rattle.sctp_safety.proofs.plan.PlanLemmas.{renamed, parts_get}
use Rattle.sctp_safety.proofs.plan.PlanGrows.{grown, IsLatest}
use Rattle.sctp_safety.proofs.plan.Gains.{latest_open, latest_new, run_keeps, mark_keeps}
use Rattle.sctp_safety.proofs.plan.QueueLemmas.{queue_around, waits_without}

-- The latest message of its stream takes its number, and leaves the queue.
pub kept_by-Number : (w v : Way) (before : List Queued) (q : Queued) (rest : List Queued) (count : ℕ) →
    Good w → Step w (Number before q rest count) v → Good v
kept_by-Number w v before q rest count g (queue, none, closed, some, bound, all, e) = subst Good (sym e)
    (by_sender w b w.asked g grows
    (run_keeps w.format p (b.plan.messages) l n 0 count m g.arranged latest some (omega arith) free
    (λ c s. absurd (omega arith)) no_end (λ s. (refl, all s)))
    (record {
      rising = still.rising;
      streamed = still.streamed;
      filled = still.filled;
      called = still.called;
      later = λ x k o y h hy s. later x k o y h s (latest.gains k o y hy);
      different = λ x k o y h hy t. different x k o y h t (latest.gains k o y hy);
    })
    (record {
      streamed = λ k o y h. streamed k o y (latest.gains k o y h);
      called = λ k o y h. called k o y (latest.gains k o y h);
      abandoned = λ k o h. let r = g.sound.abandoned k o h in (r.0, latest.keeps k o r.0 r.1, IsGivenUp-later w.sender b w.asked k o r.0 grows r.2);
      ended = λ i k o h. ended i k o (item_at-cases p.entries run i (End k o) h);
    })
    g.between.covered g.between.cum)
  where
    p : Plan
    p = w.sender.plan

    l : Lane
    l = q.lane

    m : Message
    m = q.message

    n : ℕ
    n = length (p.messages l)

    run : List Entry
    run = parts_from l n 0 count

    b : SenderView
    b = record w.sender { queue = before ++ rest; plan = numbered p l m count }

    waits : Waits w.streams p w.asked (before ++ q ∷ rest)
    waits = subst (λ (qs : List Queued). Waits w.streams p w.asked qs) queue g.waits

    has : Has (before ++ q ∷ rest) q
    has = Has-right before (q ∷ rest) q (inl refl)

    still : Waits w.streams p w.asked (before ++ rest)
    still = waits_without w.streams p w.asked before q rest waits

    latest : IsLatest p b.plan.messages l n m
    latest = latest_new w.format p g.arranged l m (λ k o x h s. waits.later q k o x has h s) (λ k o x h t. waits.different q k o x has h t)
        closed (waits.filled q has)

    grows : Grows w.sender b
    grows = record {
      plan = record { entries = λ i x h. item_at-left p.entries run i x h; messages = latest.keeps };
      abandoned = λ k o h. h;
      repeats = λ i. le_refl (w.sender.repeats i);
    }

    unnamed : (x : Message) → message_at p l n ≡ Some x → ⊥
    unnamed x h = let r : n < length (p.messages l) = slice_get-within (p.messages l) n x h in absurd (omega arith)

    free : IsAssigned p l n 0 → ⊥
    free (i, h) = let r = g.arranged.within i l n 0 h in unnamed r.0 r.1

    no_end : HasEnd p l n → ⊥
    no_end (i, h) = let r = g.arranged.marked i l n h in unnamed r.0 r.1

    Gained : Lane → ℕ → Message → Type 0
    Gained k o x = (message_at p k o ≡ Some x) ⊎ ((l ≡ k) × (n ≡ o) × (m ≡ x))

    later : (x : Queued) (k : Lane) (o : ℕ) (y : Message) → Has (before ++ rest) x → k.stream ≡ x.lane.stream → Gained k o y →
        y.ticket < x.message.ticket
    later x k o y h s (inl hy) = still.later x k o y h hy s
    later x k o y h s (inr (el, en, em)) = go (Has-cases before rest x h)
      where
        go : Has before x ⊎ Has rest x → y.ticket < x.message.ticket
        go (inl z) = absurd (none x z (let r : l.stream ≡ k.stream = ap (λ (c : Lane). c.stream) el in cc))
        go (inr z) = subst (λ (c : Message). c.ticket < x.message.ticket) em ((queue_around before q rest waits.rising).1 x z)

    different : (x : Queued) (k : Lane) (o : ℕ) (y : Message) → Has (before ++ rest) x → y.ticket ≡ x.message.ticket → Gained k o y → ⊥
    different x k o y h t (inl hy) = still.different x k o y h hy t
    different x k o y h t (inr (el, en, em)) = go (Has-cases before rest x h)
      where
        s : m.ticket ≡ y.ticket
        s = ap (λ (c : Message). c.ticket) em

        go : Has before x ⊎ Has rest x → ⊥
        go (inl z) = let r : x.message.ticket < m.ticket = (queue_around before q rest waits.rising).0 x z in omega (arith, s)
        go (inr z) = let r : m.ticket < x.message.ticket = (queue_around before q rest waits.rising).1 x z in omega (arith, s)

    streamed : (k : Lane) (o : ℕ) (y : Message) → Gained k o y → k.stream < w.streams
    streamed k o y (inl h) = g.sound.streamed k o y h
    streamed k o y (inr (el, en, em)) = subst (λ (c : Lane). c.stream < w.streams) el (waits.streamed q has)

    called : (k : Lane) (o : ℕ) (y : Message) → Gained k o y → IsCalled w.asked k y
    called k o y (inl h) = g.sound.called k o y h
    called k o y (inr (el, en, em)) = subst (λ (c : Lane). IsCalled w.asked c y) el (subst (λ (z : Message). IsCalled w.asked l z) em (waits.called q has))

    ended : (i : ℕ) (k : Lane) (o : ℕ) → (entry_at p i ≡ Some (End k o)) ⊎ ((j : ℕ) × (i ≡ suc (length p.entries) + j) × (slice_get run j ≡ Some (End k o))) →
        w.sender.abandoned k o ≡ true
    ended i k o (inl h) = g.sound.ended i k o h
    ended i k o (inr (j, s, h)) = let r : Part l n (0 + j) ≡ End k o = (parts_get l n 0 count j (End k o) h).1 in absurd (cc)

-- the plan gained entries, and no message
gains_entries : (w : Way) (new : List Entry) → Good w → IsOrderedPlan w.format (grown w.sender.plan w.sender.plan.messages new) →
    ((j : ℕ) (l : Lane) (n : ℕ) → slice_get new j ≡ Some (End l n) → w.sender.abandoned l n ≡ true) →
    Good (with_sender w (record w.sender { plan = grown w.sender.plan w.sender.plan.messages new }))
gains_entries w new g arranged marks = by_sender w (record w.sender { plan = grown p p.messages new }) w.asked g
    grows
    arranged
    (record {
      rising = g.waits.rising;
      streamed = g.waits.streamed;
      filled = g.waits.filled;
      called = g.waits.called;
      later = g.waits.later;
      different = g.waits.different;
    })
    (record {
      streamed = g.sound.streamed;
      called = g.sound.called;
      abandoned = λ l n h. let r = g.sound.abandoned l n h in (r.0, r.1, IsGivenUp-later w.sender b w.asked l n r.0 grows r.2);
      ended = λ i l n h. ended i l n (item_at-cases p.entries new i (End l n) h);
    })
    g.between.covered g.between.cum
  where
    p : Plan
    p = w.sender.plan

    b : SenderView
    b = record w.sender { plan = grown p p.messages new }

    grows : Grows w.sender b
    grows = record {
      plan = record { entries = λ i x h. item_at-left p.entries new i x h; messages = λ l n m h. h };
      abandoned = λ l n h. h;
      repeats = λ i. le_refl (w.sender.repeats i);
    }

    ended : (i : ℕ) (l : Lane) (n : ℕ) → (entry_at p i ≡ Some (End l n)) ⊎ ((j : ℕ) × (i ≡ suc (length p.entries) + j) × (slice_get new j ≡ Some (End l n))) →
        w.sender.abandoned l n ≡ true
    ended i l n (inl h) = g.sound.ended i l n h
    ended i l n (inr (j, s, h)) = marks j l n h

pub kept_by-Continue : (w v : Way) (l : Lane) (n k count : ℕ) → Good w → Step w (Continue l n k count) v → Good v
kept_by-Continue w v l n k count g (m, named, some, has, free, no_end, bound, e) = subst Good (sym e)
    (gains_entries w (parts_from l n (suc k) count) g
    (run_keeps w.format p p.messages l n (suc k) count m g.arranged (latest_open w.format p g.arranged l n m named unclosed) some bound free
    (λ c s. let z : k ≡ c = omega arith in subst (λ (y : ℕ). IsAssigned p l n y) z has) no_end
    (λ s. absurd (unclosed (inr (m, g.arranged.complete s l n m named)))))
    (λ j b o h. let r : Part l n (suc k + j) ≡ End b o = (parts_get l n (suc k) count j (End b o) h).1 in absurd (cc)))
  where
    p : Plan
    p = w.sender.plan

    unclosed : IsClosed p l n → ⊥
    unclosed (inl h) = no_end h
    unclosed (inr (x, (hx, each))) =
        let z : m ≡ x = cc (named, hx) in
        let y : length m.fragments ≡ length x.fragments = ap (λ (c : Message). length c.fragments) z in
        free (each (suc k) (omega (arith, bound, some)))

pub kept_by-Mark : (w v : Way) (l : Lane) (n : ℕ) → Good w → Step w (Mark l n) v → Good v
kept_by-Mark w v l n g (m, named, gone, unclosed, e) = subst Good (sym e)
    (gains_entries w (End l n ∷ []) g (mark_keeps w.format w.sender.plan l n m g.arranged named unclosed) marks)
  where
    marks : (j : ℕ) (k : Lane) (o : ℕ) → slice_get (End l n ∷ []) j ≡ Some (End k o) → w.sender.abandoned k o ≡ true
    marks zero k o h = let a : l ≡ k = cc in let b : n ≡ o = cc in renamed (λ (c : Lane) (d : ℕ). w.sender.abandoned c d ≡ true) l k n o a b gone
    marks (suc j) k o h = absurd (cc)
