-- The message that a stream waits for isn't whole, so some of it lies past the cumulative index; and with it all ordered numbers that are still to
-- come lie near the next one: no further than indexes may lie past the cumulative one.
use Rattle.std.proofs.Common.{◌≡◌, ℕ, suc, ◌+◌, ◌-◌, ◌<◌, ◌≤◌, true, ◌∷◌, length, Some, inl, inr, refl, subst, ap, arith, ◌∙◌}
use Rattle.std.proofs.lemmas.Bool.{cases_lt}
use Rattle.sctp_model.specs.numbers.Lists.{Has}
use Rattle.sctp_model.specs.messages.Format.{Format, Lane, Ordered, ordered_lane}
use Rattle.sctp_model.specs.messages.Plan.{Message, Entry, Part, End, entry_at, message_at, IsOf, IsClosed}
use Rattle.sctp_model.specs.messages.Pieces.{piece_of}
use Rattle.sctp_model.specs.sender.SenderView.{SenderView}
use Rattle.sctp_model.specs.receiver.ReceiverView.{ReceiverView, Reaches}
use Rattle.sctp_model.specs.world.Safe.{WasHanded}
use Rattle.sctp_model.specs.receiver.Laws.{IsWaiting}
use Rattle.sctp_safety.proofs.moves.Facts.{IsOrderedPlan, Held, IsDone, IsLost}
use Rattle.sctp_safety.proofs.lists.Basics.{item_at-above, item_at-within}
use Rattle.sctp_safety.proofs.lists.Numbers.{below_is}
use Rattle.sctp_safety.proofs.plan.PlanLemmas.{message_of, same_message, renamed}
use Rattle.sctp_safety.proofs.moves.Settled.{settled_at, ordered_numbered}
use Rattle.sctp_safety.proofs.plan.OneMessage.{whole_when_kept, number_counts}
use Rattle.sctp_safety.proofs.plan.Spread.{lower_to, spread}

-- ---- the awaited message

module _ (f : Format) (a : SenderView) (r : ReceiverView) (s : ℕ) (held : Held f a r) (waits : IsWaiting f r s) where
  abbrev IsAwaited : Entry → Type 0
  IsAwaited = IsOf (ordered_lane s) (r.next s)

  -- its number is neither skipped nor below the next
  unfinished : IsDone f r (ordered_lane s) (r.next s) → ⊥
  unfinished (inl unnumbered) = let numbered = ordered_numbered f Ordered refl in absurd (cc)
  unfinished (inr (inl skipped)) = omega (arith, skipped, waits.passed)
  unfinished (inr (inr (kind, below))) = omega (arith, below)

  -- what was delivered in order has lower numbers
  untold : WasHanded a.plan r (ordered_lane s) (r.next s) → ⊥
  untold (h, has, lane, first) =
      let own = held.told.honest s h has in
      let begins = own.sent.first in
      let number : own.sent.number ≡ r.next s = cc (begins, first) in
      let kind : h.lane.kind ≡ Ordered = ap (λ (l : Lane). l.kind) lane in
      let below = below_is (r.next s) own.sent.number h.number (own.counted (ordered_numbered f h.lane.kind kind)) (held.told.below s h has kind) in
      omega (arith, number, below)

  -- an index of it that was reached was seen
  reached_seen : (i : ℕ) (e : Entry) → entry_at a.plan i ≡ Some e → IsAwaited e → Reaches r i → r.seen i ≡ true
  reached_seen i e here awaited (inl seen) = seen
  reached_seen i e here awaited (inr upto) = elim (held.jumped i (item_at-above a.plan.entries i e here) upto) [
    | inl seen ↦ seen
    | inr x ↦ absurd (lost x)
  ]
    where
      lost : IsLost f a r i → ⊥
      lost x =
          let there = x.here in
          let entry : x.entry ≡ e = cc (there, here) in
          let same = same_message x.lane (ordered_lane s) x.number (r.next s) e (subst (IsOf x.lane x.number) entry x.of) awaited in
          unfinished (renamed (IsDone f r) x.lane (ordered_lane s) x.number (r.next s) same.0 same.1 x.done)

  -- it has no end mark there, and its fragments there are kept
  no_end : (i : ℕ) → entry_at a.plan i ≡ Some (End (ordered_lane s) (r.next s)) → Reaches r i → ⊥
  no_end i here reached = let settled = held.seen i (reached_seen i _ here (refl, refl) reached) in let there = settled.here in absurd (cc)

  kept_there : (i k : ℕ) (m : Message) → message_at a.plan (ordered_lane s) (r.next s) ≡ Some m → entry_at a.plan i ≡ Some (Part (ordered_lane s) (r.next s) k) → Reaches r i →
      Has r.kept (piece_of f i (ordered_lane s) (r.next s) k m)
  kept_there i k m named here reached =
      elim (settled_at f a r i (ordered_lane s) (r.next s) k m here named (held.seen i (reached_seen i _ here (refl, refl) reached))) [
        | inl kept ↦ kept
        | inr over ↦ absurd (elim over [ inl handed ↦ untold handed | inr gone ↦ unfinished gone.1 ])
      ]

  -- So not all of it was reached, once it takes no more indexes: it would be whole.
  pub not_all_reached : IsOrderedPlan f a.plan → IsClosed a.plan (ordered_lane s) (r.next s) → ((i : ℕ) (e : Entry) → entry_at a.plan i ≡ Some e → IsAwaited e → Reaches r i) → ⊥
  not_all_reached arranged (inl (i, here)) all = no_end i here (all i _ here (refl, refl))
  not_all_reached arranged (inr (m, (named, each))) all =
      let whole = whole_when_kept f a.plan arranged (ordered_lane s) (r.next s) m named r.kept held.kept
      (λ k within. let part = each k within in (part.0, part.1, kept_there part.0 k m named part.1 (all part.0 _ part.1 (refl, refl)))) in
      let number = whole.number ∙ number_counts f (ordered_lane s) (r.next s) (ordered_numbered f Ordered refl) in
      waits.none (whole.head ∷ whole.rest) (whole.whole, whole.within, (whole.lane, number))

-- ---- numbers above the next

module _ (f : Format) (a : SenderView) (r : ReceiverView) (s c w : ℕ) (arranged : IsOrderedPlan f a.plan) (held : Held f a r)
    (reached : (i : ℕ) → 0 < i → i ≤ c → Reaches r i) (waits : IsWaiting f r s) (window : length a.plan.entries ≤ c + w) where
  -- A number that lies too far above the next one would leave all of the awaited message up to c.
  pub not_far_above : (i n : ℕ) (e : Entry) → entry_at a.plan i ≡ Some e → IsOf (ordered_lane s) n e → r.next s < n → n < r.next s + w
  not_far_above i n e here own above = elim (cases_lt n (r.next s + w)) [
    | inl near ↦ near
    | inr far ↦ absurd (not_all_reached f a r s held waits arranged closed (λ j d there its. reached j (item_at-above a.plan.entries j d there) (upto far j d there its)))
  ]
    where
      upto : r.next s + w ≤ n → (j : ℕ) (d : Entry) → entry_at a.plan j ≡ Some d → IsOf (ordered_lane s) (r.next s) d → j ≤ c
      upto far j d there its =
          let apart = spread f a.plan arranged (ordered_lane s) (r.next s) n j i d e there its here own above in
          let last = item_at-within a.plan.entries i e here in
          omega (arith, far, apart, last, window)

      higher : (m : Message) × (message_at a.plan (ordered_lane s) n ≡ Some m)
      higher = message_of f a.plan arranged i e (ordered_lane s) n here own

      awaited : (m : Message) × (message_at a.plan (ordered_lane s) (r.next s) ≡ Some m)
      awaited = lower_to (a.plan.messages (ordered_lane s)) (r.next s) n higher.0 (omega (arith, above)) higher.1

      closed : IsClosed a.plan (ordered_lane s) (r.next s)
      closed =
          let later = arranged.rising (ordered_lane s) (r.next s) n awaited.0 higher.0 awaited.1 higher.1 above in
          arranged.closed (ordered_lane s) (ordered_lane s) (r.next s) n awaited.0 higher.0 awaited.1 higher.1 refl later

-- ---- numbers below the next

module _ (f : Format) (a : SenderView) (r : ReceiverView) (s : ℕ) (arranged : IsOrderedPlan f a.plan) (held : Held f a r)
    (known : (n : ℕ) → a.abandoned (ordered_lane s) n ≡ true → (m : Message) × (message_at a.plan (ordered_lane s) n ≡ Some m)) where
  -- each was delivered or abandoned, so its message begins somewhere
  pub begun_below : (n : ℕ) → n < r.next s → (i : ℕ) × (entry_at a.plan i ≡ Some (Part (ordered_lane s) n 0))
  begun_below n below = elim (held.told.passed s n below) [
    | inl handed ↦ (handed.0.first, handed.3)
    | inr gone ↦ let m = known n gone in arranged.begun (ordered_lane s) n m.0 m.1
  ]

  -- One with an entry past c lies no further below the next than entries lie past c.
  pub not_far_below : (c w : ℕ) → length a.plan.entries ≤ c + w → (i n : ℕ) (e : Entry) → entry_at a.plan i ≡ Some e → IsOf (ordered_lane s) n e → c < i → suc n < r.next s → r.next s ≤ n + w
  not_far_below c w window i n e here own past below =
      let last = begun_below (r.next s - 1) (omega (arith, below)) in
      let apart = spread f a.plan arranged (ordered_lane s) n (r.next s - 1) i last.0 e (Part (ordered_lane s) (r.next s - 1) 0) here own last.1 (refl, refl) (omega (arith, below)) in
      let within = item_at-within a.plan.entries last.0 _ last.1 in
      omega (arith, below, apart, within, past, window)
