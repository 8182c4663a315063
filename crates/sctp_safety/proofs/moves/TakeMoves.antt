-- The receiver's user takes a message, and the receiver notes duplicates.
use Rattle.std.proofs.Common.{◌≡◌, ℕ, ◌⊎◌, true, List, [], ◌∷◌, ◌++◌, inl, inr, refl, sym, subst, le_refl, append_assoc}
use Rattle.std.proofs.lemmas.Bool.{cases_eq}
use Rattle.sctp_model.specs.numbers.Lists.{Has, at}
use Rattle.sctp_model.specs.messages.Format.{Format, Lane, ordered_lane}
use Rattle.sctp_model.specs.sender.SenderView.{SenderView}
use Rattle.sctp_model.specs.receiver.Incoming.{Incoming}
use Rattle.sctp_model.specs.receiver.ReceiverView.{Handed, ReceiverView, handed}
use Rattle.sctp_model.specs.world.Safe.{IsRising, AreDifferent, WasHanded}
use Rattle.sctp_safety.specs.Way.{Way, Take, Note_duplicates, Step, with_receiver}
use Rattle.sctp_safety.proofs.moves.Facts.{Held, Good}
use Rattle.sctp_safety.proofs.lists.Basics.{at_same, at_other}
use Rattle.sctp_safety.proofs.moves.Later.{Learns, Grows-refl, lost-later, IsRetired-later, MayPass-later, IsAllSeen-later}
use Rattle.sctp_safety.proofs.moves.MovesBySide.{by_receiver}
use Rattle.sctp_safety.proofs.moves.Settled.{settled_on}

-- What is delivered stays the same, and so does all else but the duplicates.
module _ (w : Way) (taken waiting : ℕ → List Handed) (duplicates : List ℕ) (resets : Incoming) where
  abbrev moved : ReceiverView
  moved = record w.receiver { taken = taken; waiting = waiting; duplicates = duplicates; resets = resets }

  by_same : Good w → ((u : ℕ) → taken u ++ waiting u ≡ handed w.receiver u) → Good (with_receiver w moved)
  by_same g same = by_receiver w t g learns (record {
    jumped = λ i l m. lost-later f a a r t (Grows-refl a) learns i (held.jumped i l m);
    old = λ q i l m. IsRetired-later f a a r t (Grows-refl a) learns i (held.old q i l m);
    kept = held.kept;
    seen = λ i k. settled_on f a r t i learns (λ x n j q b. inl q) still (held.seen i k);
    skips = λ l n k. MayPass-later f a a r t (Grows-refl a) learns l n (held.skips l n k);
    unskipped = held.unskipped;
    kept_seen = held.kept_seen;
    fresh = λ x n k q here was. held.fresh x n k q here (before x.lane n was);
    told = record {
      all_seen = λ l n x. IsAllSeen-later a.plan a.plan (Grows-refl a).plan r t learns l n (held.told.all_seen l n (before l n x));
      below = λ u x k. held.told.below u x (subst (λ (xs : List Handed). Has xs x) (same u) k);
      rising = λ u. subst IsRising (sym (same u)) (held.told.rising u);
      apart = λ u. subst AreDifferent (sym (same u)) (held.told.apart u);
      honest = λ u x k. held.told.honest u x (subst (λ (xs : List Handed). Has xs x) (same u) k);
      passed = λ u n l. passed u n (held.told.passed u n l);
    };
  })
    where
      f : Format
      f = w.format

      a : SenderView
      a = w.sender

      r : ReceiverView
      r = w.receiver

      held : Held f a r
      held = g.held

      t : ReceiverView
      t = moved

      learns : Learns r t
      learns = record { seen = λ i k. k; jump = le_refl r.jump; next = λ u. le_refl (r.next u); skip = λ l. le_refl (r.skip l) }

      still : (l : Lane) (n : ℕ) → WasHanded a.plan r l n → WasHanded a.plan t l n
      still l n (x, has, lane, here) = (x, subst (λ (xs : List Handed). Has xs x) (sym (same l.stream)) has, lane, here)

      before : (l : Lane) (n : ℕ) → WasHanded a.plan t l n → WasHanded a.plan r l n
      before l n (x, has, lane, here) = (x, subst (λ (xs : List Handed). Has xs x) (same l.stream) has, lane, here)

      passed : (u n : ℕ) → WasHanded a.plan r (ordered_lane u) n ⊎ (a.abandoned (ordered_lane u) n ≡ true) →
          WasHanded a.plan t (ordered_lane u) n ⊎ (a.abandoned (ordered_lane u) n ≡ true)
      passed u n (inl k) = inl (still (ordered_lane u) n k)
      passed u n (inr k) = inr k

pub kept_by-Take : (w v : Way) (s : ℕ) (h : Handed) (rest : List Handed) → Good w → Step w (Take s h rest) v → Good v
kept_by-Take w v s h rest g (some, e) = subst Good (sym e) (by_same w taken waiting r.duplicates r.resets g (λ u. same u (cases_eq u s)))
  where
    r : ReceiverView
    r = w.receiver

    taken : ℕ → List Handed
    taken = at r.taken s (r.taken s ++ h ∷ [])

    waiting : ℕ → List Handed
    waiting = at r.waiting s rest

    same : (u : ℕ) → (u ≡ s) ⊎ (u ≡ s → ⊥) → taken u ++ waiting u ≡ handed r u
    same u (inl e) = subst (λ (y : ℕ). taken y ++ waiting y ≡ handed r y) (sym e) (rw (at_same r.taken s (r.taken s ++ h ∷ []), at_same r.waiting s rest, some, append_assoc))
    same u (inr ne) = simp at_other

pub kept_by-Note_duplicates : (w v : Way) (t : ReceiverView) → Good w → Step w (Note_duplicates t) v → Good v
kept_by-Note_duplicates w v t g (same, e) = subst Good (sym e) (subst (λ (r : ReceiverView). Good (with_receiver w r)) (sym same)
    (by_same w w.receiver.taken w.receiver.waiting t.duplicates t.resets g (λ u. refl)))
