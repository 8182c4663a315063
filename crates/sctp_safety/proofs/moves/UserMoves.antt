-- What the user does keeps every fact: a message more, a ticket named, time that passes.
use Rattle.std.proofs.Common.{◌≡◌, ℕ, suc, ◌<◌, ◌≤◌, ◌⊎◌, max, Bool, true, List, [], ◌∷◌, ◌++◌, length, Some, inl, inr, refl, sym, subst, ap, arith, le_refl}
use Rattle.sctp_model.specs.numbers.Lists.{Has, item_at, at}
use Rattle.sctp_model.specs.messages.Format.{Lane}
use Rattle.sctp_model.specs.messages.Plan.{Message, bytes_of, message_at}
use Rattle.sctp_model.specs.sender.SenderView.{Queued}
use Rattle.sctp_model.specs.world.Calls.{Call, Asked}
use Rattle.sctp_model.specs.world.Safe.{IsGivenUp}
use Rattle.sctp_safety.specs.Way.{Way, Send, Name, Time_passes, Step}
use Rattle.sctp_safety.proofs.lists.Basics.{at_cases, Has-push}
use Rattle.sctp_safety.proofs.moves.Facts.{IsCalled, Good}
use Rattle.sctp_safety.proofs.moves.Later.{Grows-refl}
use Rattle.sctp_safety.proofs.moves.MovesBySide.{by_sender}
use Rattle.sctp_safety.proofs.plan.QueueLemmas.{called_new, IsQueue-push, called_within, called_later}

pub kept_by-Send : (w v : Way) (call : Call) (fragments : List (List ℕ)) → Good w → Step w (Send call fragments) v → Good v
kept_by-Send w v call fragments g (stream, some, full, bytes, e) = subst Good (sym e)
    (by_sender w (record w.sender { queue = w.sender.queue ++ q ∷ [] }) u g (record { plan = record { entries = λ i x h. h; messages = λ l n m h. h }; abandoned = λ l n h. h; repeats = λ i. le_refl (w.sender.repeats i) })
    g.arranged
    (record {
      rising = IsQueue-push w.sender.queue q g.waits.rising (λ x h. called_within w.asked x.lane x.message (g.waits.called x h));
      streamed = λ x h. streamed x (Has-push w.sender.queue q x h);
      filled = λ x h. filled x (Has-push w.sender.queue q x h);
      called = λ x h. called x (Has-push w.sender.queue q x h);
      later = λ x l n m h hm s. later x l n m hm s (Has-push w.sender.queue q x h);
      different = λ x l n m h hm t. different x l n m hm t (Has-push w.sender.queue q x h);
    })
    (record {
      streamed = g.sound.streamed;
      called = λ l n m h. called_later w.asked call l m (g.sound.called l n m h);
      abandoned = g.sound.abandoned;
      ended = g.sound.ended;
    })
    g.between.covered g.between.cum)
  where
    m : Message
    m = record { ticket = suc (length w.asked.calls); payload = call.payload; fragments = fragments; until = call.until; limit = call.limit }

    q : Queued
    q = record { lane = call.lane; message = m }

    u : Asked
    u = record w.asked { calls = w.asked.calls ++ call ∷ [] }

    streamed : (x : Queued) → Has w.sender.queue x ⊎ (q ≡ x) → x.lane.stream < w.streams
    streamed x (inl h) = g.waits.streamed x h
    streamed x (inr h) = subst (λ (y : Queued). y.lane.stream < w.streams) h stream

    filled : (x : Queued) → Has w.sender.queue x ⊎ (q ≡ x) → (0 < length x.message.fragments) × ((y : List ℕ) → Has x.message.fragments y → 0 < length y)
    filled x (inl h) = g.waits.filled x h
    filled x (inr h) = subst (λ (z : Queued). (0 < length z.message.fragments) × ((y : List ℕ) → Has z.message.fragments y → 0 < length y)) h (some, full)

    called : (x : Queued) → Has w.sender.queue x ⊎ (q ≡ x) → IsCalled u x.lane x.message
    called x (inl h) = called_later w.asked call x.lane x.message (g.waits.called x h)
    called x (inr h) = subst (λ (z : Queued). IsCalled u z.lane z.message) h (called_new w.asked call (bytes_of m) bytes)

    later : (x : Queued) (l : Lane) (n : ℕ) (y : Message) → message_at w.sender.plan l n ≡ Some y → l.stream ≡ x.lane.stream →
        Has w.sender.queue x ⊎ (q ≡ x) → y.ticket < x.message.ticket
    later x l n y hy s (inl h) = g.waits.later x l n y h hy s
    later x l n y hy s (inr h) = subst (λ (z : Queued). y.ticket < z.message.ticket) h (called_within w.asked l y (g.sound.called l n y hy))

    different : (x : Queued) (l : Lane) (n : ℕ) (y : Message) → message_at w.sender.plan l n ≡ Some y → y.ticket ≡ x.message.ticket →
        Has w.sender.queue x ⊎ (q ≡ x) → ⊥
    different x l n y hy t (inl h) = g.waits.different x l n y h hy t
    different x l n y hy t (inr h) =
        let b : y.ticket < suc (length w.asked.calls) = called_within w.asked l y (g.sound.called l n y hy) in
        let z : suc (length w.asked.calls) ≡ x.message.ticket = ap (λ (z : Queued). z.message.ticket) h in
        absurd (omega arith)

-- the user named more tickets, or time went on
asks_more : (w : Way) (u : Asked) → Good w → u.calls ≡ w.asked.calls →
    ((t : ℕ) → w.asked.named t ≡ true → u.named t ≡ true) → w.asked.clock ≤ u.clock → Good (record w { asked = u })
asks_more w u g calls named clock = by_sender w w.sender u g (Grows-refl w.sender) g.arranged
    (record {
      rising = g.waits.rising;
      streamed = g.waits.streamed;
      filled = g.waits.filled;
      called = λ q h. called q.lane q.message (g.waits.called q h);
      later = g.waits.later;
      different = g.waits.different;
    })
    (record {
      streamed = g.sound.streamed;
      called = λ l n m h. called l m (g.sound.called l n m h);
      abandoned = λ l n h. let r = g.sound.abandoned l n h in (r.0, r.1, asked l n r.0 r.2);
      ended = g.sound.ended;
    })
    g.between.covered g.between.cum
  where
    called : (l : Lane) (m : Message) → IsCalled w.asked l m → IsCalled u l m
    called l m h = subst (λ (cs : List Call). item_at cs m.ticket ≡ Some (record { lane = l; payload = m.payload; bytes = bytes_of m; until = m.until; limit = m.limit })) (sym calls) h

    asked : (l : Lane) (n : ℕ) (m : Message) → IsGivenUp w.sender w.asked l n m → IsGivenUp w.sender u l n m
    asked l n m (inl h) = inl (named m.ticket h)
    asked l n m (inr (inl (t, until, past))) = inr (inl (t, until, omega (arith, clock)))
    asked l n m (inr (inr h)) = inr (inr h)

pub kept_by-Name : (w v : Way) (ticket : ℕ) → Good w → Step w (Name ticket) v → Good v
kept_by-Name w v ticket g e = subst Good (sym e)
    (asks_more w (record w.asked { named = at w.asked.named ticket true }) g refl
    (λ t h. at_cases (λ (b : Bool). b ≡ true) w.asked.named ticket true t (λ s. refl) (λ ne. h))
    (le_refl w.asked.clock))

pub kept_by-Time_passes : (w v : Way) (moment : ℕ) → Good w → Step w (Time_passes moment) v → Good v
kept_by-Time_passes w v moment g e = subst Good (sym e)
    (asks_more w (record w.asked { clock = max w.asked.clock moment }) g refl (λ t h. h) (omega arith))
