-- What a FORWARD that may be built says.
use Rattle.std.proofs.Common.{◌≡◌, ℕ, suc, ◌-◌, ◌<◌, ◌≤◌, ◌⊎◌, true, false, length, Some, inl, inr, refl, sym, subst, arith}
use Rattle.std.proofs.lemmas.Bool.{cases_eq, cases_lt, cases_Bool}
use Rattle.sctp_model.specs.numbers.Lists.{Has}
use Rattle.sctp_model.specs.messages.Format.{Format, Plain, Lane, is_numbered}
use Rattle.sctp_model.specs.messages.Plan.{Message, Entry, Part, End, Plan, entry_at, message_at, IsOf, IsAssigned, IsComplete, IsClosed}
use Rattle.sctp_model.specs.sender.SenderView.{IsOfAbandoned, IsAllAbandoned}
use Rattle.sctp_model.specs.messages.Forward.{Skip, Forward, StandsIn}
use Rattle.sctp_model.specs.receiver.ReceiverView.{Reaches}
use Rattle.sctp_safety.specs.Way.{Way}
use Rattle.sctp_safety.proofs.lists.Basics.{each_or, item_at-above}
use Rattle.sctp_safety.proofs.moves.Facts.{IsDone, IsLost, IsLostBy, IsSettled, MayPass, IsRetired, IsAhead, IsSendersForward, IsOrderedPlan, Good}
use Rattle.sctp_safety.proofs.plan.EntryLemmas.{one_entry, same_gone, entry_abandoned_at, slice_get-below, between_fragments}

-- What a FORWARD that may be built says.
module _ (w : Way) (x : Forward) (g : Good w) (gone : IsAllAbandoned w.sender w.sender.cum x.point)
    (listed : (y : Skip) → Has x.skips y → (is_numbered w.format y.lane.kind ≡ true) × StandsIn w.sender.plan w.sender.cum x.point y.lane y.number)
    (each : (l : Lane) (n : ℕ) → is_numbered w.format l.kind ≡ true → StandsIn w.sender.plan w.sender.cum x.point l n →
    (y : Skip) × Has x.skips y × (y.lane ≡ l) × (n ≤ y.number)) where
  -- each index up to the acknowledged one arrived, or is lost
  came : (i : ℕ) → 0 < i → i ≤ w.sender.cum → (w.receiver.seen i ≡ true) ⊎ IsLost w.format w.sender w.receiver i
  came i pos l = go (g.between.cum i l)
    where
      go : Reaches w.receiver i → (w.receiver.seen i ≡ true) ⊎ IsLost w.format w.sender w.receiver i
      go (inl h) = inl h
      go (inr h) = g.held.jumped i pos h

  -- each index up to the point arrived, or will be lost by this FORWARD
  upto : (i : ℕ) → 0 < i → i ≤ x.point → (w.receiver.seen i ≡ true) ⊎ IsLostBy w.format w.sender w.receiver x.skips i
  upto i pos l = go (cases_lt w.sender.cum i)
    where
      Claim : Type 0
      Claim = (w.receiver.seen i ≡ true) ⊎ IsLostBy w.format w.sender w.receiver x.skips i

      old : (w.receiver.seen i ≡ true) ⊎ IsLost w.format w.sender w.receiver i → Claim
      old (inl h) = inl h
      old (inr h) = inr (record { lane = h.lane; number = h.number; entry = h.entry; here = h.here; of = h.of; gone = h.gone; done = inl h.done })

      new : w.sender.cum < i → IsOfAbandoned w.sender i → Claim
      new above (k, n, e, here, of, dead) = inr (record {
        lane = k;
        number = n;
        entry = e;
        here = here;
        of = of;
        gone = dead;
        done = done (cases_Bool (is_numbered w.format k.kind));
      })
        where
          done : (is_numbered w.format k.kind ≡ true) ⊎ (is_numbered w.format k.kind ≡ false) →
              IsDone w.format w.receiver k n ⊎ ((y : Skip) × Has x.skips y × (y.lane ≡ k) × (n ≤ y.number))
          done (inl h) = inr (each k n h (i, e, above, l, here, of))
          done (inr h) = inl (inl h)

      go : (w.sender.cum < i) ⊎ (i ≤ w.sender.cum) → Claim
      go (inl h) = new h (gone i h l)
      go (inr h) = old (came i pos h)

  -- an index up to the point arrived, or its message is abandoned
  settled_upto : (i : ℕ) (l : Lane) (n : ℕ) (e : Entry) → entry_at w.sender.plan i ≡ Some e → IsOf l n e → i ≤ x.point →
      (w.receiver.seen i ≡ true) ⊎ (w.sender.abandoned l n ≡ true)
  settled_upto i l n e here of below = go (upto i (item_at-above w.sender.plan.entries i e here) below)
    where
      go : (w.receiver.seen i ≡ true) ⊎ IsLostBy w.format w.sender w.receiver x.skips i → (w.receiver.seen i ≡ true) ⊎ (w.sender.abandoned l n ≡ true)
      go (inl h) = inl h
      go (inr h) = inr (same_gone w.sender l h.lane n h.number (one_entry w.sender.plan i l h.lane n h.number e h.entry here of h.here h.of) h.gone)

  -- a message whose fragments all arrived, unless it is abandoned
  all_seen : (l : Lane) (n : ℕ) (m : Message) → message_at w.sender.plan l n ≡ Some m →
      ((k : ℕ) → k < length m.fragments →
      ((i : ℕ) × (entry_at w.sender.plan i ≡ Some (Part l n k)) × (w.receiver.seen i ≡ true)) ⊎ (w.sender.abandoned l n ≡ true)) →
      MayPass w.sender w.receiver l n
  all_seen l n m named part = go (each_or (length m.fragments) part)
    where
      go : ((k : ℕ) → k < length m.fragments → (i : ℕ) × (entry_at w.sender.plan i ≡ Some (Part l n k)) × (w.receiver.seen i ≡ true)) ⊎ (w.sender.abandoned l n ≡ true) →
          MayPass w.sender w.receiver l n
      go (inl h) = inr (record { message = m; named = named; seen = h })
      go (inr h) = inl h

  -- The numbers up to one that is listed may be passed.
  may_pass : (l : Lane) (m n : ℕ) → StandsIn w.sender.plan w.sender.cum x.point l m → n ≤ m → MayPass w.sender w.receiver l n
  may_pass l m n (i, e, above, below, here, of) le = go (cases_eq n m)
    where
      message : (z : Message) × (message_at w.sender.plan l m ≡ Some z)
      message = from e here of
        where
          from : (d : Entry) → entry_at w.sender.plan i ≡ Some d → IsOf l m d → (z : Message) × (message_at w.sender.plan l m ≡ Some z)
          from (Part k o j) h (el, en) =
              let (z, named, bound) = g.arranged.within i k o j h in
              (z, subst (λ (u : Lane). message_at w.sender.plan u m ≡ Some z) el (subst (λ (u : ℕ). message_at w.sender.plan k u ≡ Some z) en named))
          from (End k o) h (el, en) =
              let (z, named) = g.arranged.marked i k o h in
              (z, subst (λ (u : Lane). message_at w.sender.plan u m ≡ Some z) el (subst (λ (u : ℕ). message_at w.sender.plan k u ≡ Some z) en named))

      lower : (y : Message) → message_at w.sender.plan l n ≡ Some y → n < m → IsClosed w.sender.plan l n → MayPass w.sender w.receiver l n
      lower y named less (inl (j, at')) = inl (g.sound.ended j l n at')
      lower y named less (inr (z, (told, assigned))) = all_seen l n z told part
        where
          tickets : z.ticket < (message.0).ticket
          tickets = g.arranged.rising l n m z message.0 told message.1 less

          part : (k : ℕ) → k < length z.fragments →
              ((j : ℕ) × (entry_at w.sender.plan j ≡ Some (Part l n k)) × (w.receiver.seen j ≡ true)) ⊎ (w.sender.abandoned l n ≡ true)
          part k within = at' (assigned k within)
            where
              at' : IsAssigned w.sender.plan l n k →
                  ((j : ℕ) × (entry_at w.sender.plan j ≡ Some (Part l n k)) × (w.receiver.seen j ≡ true)) ⊎ (w.sender.abandoned l n ≡ true)
              at' (j, there) = which (settled_upto j l n (Part l n k) there (refl, refl) (omega (arith, before, below)))
                where
                  before : j < i
                  before = g.arranged.order j i (Part l n k) e l l n m z message.0 there (refl, refl) told here of message.1 refl tickets

                  which : (w.receiver.seen j ≡ true) ⊎ (w.sender.abandoned l n ≡ true) →
                      ((j : ℕ) × (entry_at w.sender.plan j ≡ Some (Part l n k)) × (w.receiver.seen j ≡ true)) ⊎ (w.sender.abandoned l n ≡ true)
                  which (inl h) = inl (j, there, h)
                  which (inr h) = inr h

      go : (n ≡ m) ⊎ (n ≡ m → ⊥) → MayPass w.sender w.receiver l n
      go (inl h) = inl (subst (λ (u : ℕ). w.sender.abandoned l u ≡ true) (sym h) (entry_abandoned_at w.sender i l m e here of (gone i above below)))
      go (inr h) =
          let less : n < m = omega (arith, le, h) in
          let (y, named) = slice_get-below (w.sender.plan.messages l) n m message.0 message.1 less in
          lower y named less (g.arranged.closed l l n m y message.0 named message.1 refl (g.arranged.rising l n m y message.0 named message.1 less))

  -- Under DATA an index up to the point belongs to an unordered message that may be let go, if the point is still ahead.
  retired : w.format ≡ Plain → IsAhead w.receiver x.point → (i : ℕ) → 0 < i → i ≤ x.point → IsRetired w.sender w.receiver i
  retired plain (j, near, not_yet) i pos l = go (cases_lt w.sender.cum i)
    where
      ahead : w.sender.cum < x.point
      ahead = pick (cases_lt w.sender.cum x.point)
        where
          pick : (w.sender.cum < x.point) ⊎ (x.point ≤ w.sender.cum) → w.sender.cum < x.point
          pick (inl h) = h
          pick (inr h) = absurd (not_yet (g.between.cum j (omega arith)))

      of_gone : IsOfAbandoned w.sender i → IsRetired w.sender w.receiver i
      of_gone (k, n, e, here, of, dead) = record { lane = k; number = n; entry = e; here = here; of = of; may = λ u. inl dead }

      of_lost : IsLost w.format w.sender w.receiver i → IsRetired w.sender w.receiver i
      of_lost h = record { lane = h.lane; number = h.number; entry = h.entry; here = h.here; of = h.of; may = λ u. inl h.gone }

      of_settled : i ≤ w.sender.cum → IsSettled w.format w.sender w.receiver i → IsRetired w.sender w.receiver i
      of_settled old h = record {
        lane = h.lane;
        number = h.number;
        entry = Part h.lane h.number h.fragment;
        here = h.here;
        of = (refl, refl);
        may = λ u. all_seen h.lane h.number h.message h.named part;
      }
        where
          plan : Plan
          plan = w.sender.plan

          arranged : IsOrderedPlan Plain w.sender.plan
          arranged = subst (λ (f : Format). IsOrderedPlan f w.sender.plan) plain g.arranged

          part : (k : ℕ) → k < length h.message.fragments →
              ((z : ℕ) × (entry_at w.sender.plan z ≡ Some (Part h.lane h.number k)) × (w.receiver.seen z ≡ true)) ⊎ (w.sender.abandoned h.lane h.number ≡ true)
          part k within = at' (complete.1 k within)
            where
              complete : IsComplete w.sender.plan h.lane h.number h.message
              complete = g.arranged.complete plain h.lane h.number h.message h.named

              at' : IsAssigned w.sender.plan h.lane h.number k →
                  ((z : ℕ) × (entry_at w.sender.plan z ≡ Some (Part h.lane h.number k)) × (w.receiver.seen z ≡ true)) ⊎ (w.sender.abandoned h.lane h.number ≡ true)
              at' (z, there) = where' (cases_lt w.sender.cum z)
                where
                  where' : (w.sender.cum < z) ⊎ (z ≤ w.sender.cum) →
                      ((z : ℕ) × (entry_at w.sender.plan z ≡ Some (Part h.lane h.number k)) × (w.receiver.seen z ≡ true)) ⊎ (w.sender.abandoned h.lane h.number ≡ true)
                  where' (inl above) =
                      let (o, next) = between_fragments w.sender.plan arranged h.lane h.number h.fragment w.sender.cum i h.here old
                      (z - suc w.sender.cum) z k (omega (arith, above)) there in
                      inr (entry_abandoned_at w.sender (suc w.sender.cum) h.lane h.number (Part h.lane h.number o) next (refl, refl)
                      (gone (suc w.sender.cum) (omega arith) (omega (arith, ahead))))
                  where' (inr below) = which (settled_upto z h.lane h.number (Part h.lane h.number k) there (refl, refl) (omega (arith, below, ahead)))
                    where
                      which : (w.receiver.seen z ≡ true) ⊎ (w.sender.abandoned h.lane h.number ≡ true) →
                          ((z : ℕ) × (entry_at w.sender.plan z ≡ Some (Part h.lane h.number k)) × (w.receiver.seen z ≡ true)) ⊎ (w.sender.abandoned h.lane h.number ≡ true)
                      which (inl s) = inl (z, there, s)
                      which (inr d) = inr d

      go : (w.sender.cum < i) ⊎ (i ≤ w.sender.cum) → IsRetired w.sender w.receiver i
      go (inl h) = of_gone (gone i h l)
      go (inr h) = which (came i pos h)
        where
          which : (w.receiver.seen i ≡ true) ⊎ IsLost w.format w.sender w.receiver i → IsRetired w.sender w.receiver i
          which (inl s) = of_settled h (g.held.seen i s)
          which (inr d) = of_lost d

  pub fair_forward : IsSendersForward w.format w.sender w.receiver x
  fair_forward = record {
    upto = upto;
    listed = λ y has n l. may_pass y.lane y.number n (listed y has).1 l;
    numbered = λ y has. (listed y has).0;
    old = retired;
  }
