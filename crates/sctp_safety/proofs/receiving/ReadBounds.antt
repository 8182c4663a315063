-- How far the counts of a direction reach: no further than its plan, which is shorter than half the space of TSNs.
use Rattle.std.proofs.Common.{◌≡◌, ℕ, zero, suc, ◌<◌, ◌≤◌, ◌⊎◌, true, length, Some, inl, inr, refl, arith}
use Rattle.std.proofs.lemmas.Bool.{cases_lt}
use Rattle.sctp_model.specs.messages.Format.{Lane}
use Rattle.sctp_model.specs.messages.Plan.{Message, Part, entry_at, message_at}
use Rattle.sctp_model.specs.receiver.ReceiverView.{Reaches, IsCumulative}
use Rattle.sctp_safety.specs.Way.{Way}
use Rattle.sctp_safety.proofs.moves.Facts.{Good, IsLost}
use Rattle.sctp_safety.proofs.lists.Basics.{item_at-above, item_at-within}
use Rattle.sctp_safety.proofs.plan.Spread.{lower_to, spread}

module _ (w : Way) (g : Good w) where
  -- each index that was reached has an entry
  pub reached_within : (i : ℕ) → 0 < i → Reaches w.receiver i → i ≤ length w.sender.plan.entries
  reached_within i some h = go h
    where
      by_seen : w.receiver.seen i ≡ true → i ≤ length w.sender.plan.entries
      by_seen s = let x = g.held.seen i s in item_at-within w.sender.plan.entries i _ x.here

      by_lost : (w.receiver.seen i ≡ true) ⊎ IsLost w.format w.sender w.receiver i → i ≤ length w.sender.plan.entries
      by_lost (inl s) = by_seen s
      by_lost (inr x) = item_at-within w.sender.plan.entries i _ x.here

      go : Reaches w.receiver i → i ≤ length w.sender.plan.entries
      go (inl s) = by_seen s
      go (inr j) = by_lost (g.held.jumped i some j)

  pub cumulative_within : (c : ℕ) → IsCumulative w.receiver c → c ≤ length w.sender.plan.entries
  cumulative_within zero cumulative = omega arith
  cumulative_within (suc c) cumulative = reached_within (suc c) (omega arith) (cumulative.reached (suc c) (omega arith) (omega arith))

  -- CUM lies no further than the peer's cumulative index
  pub cum_within : (c : ℕ) → IsCumulative w.receiver c → w.sender.cum ≤ c
  cum_within c cumulative = go (cases_lt c w.sender.cum)
    where
      go : (c < w.sender.cum) ⊎ (w.sender.cum ≤ c) → w.sender.cum ≤ c
      go (inr h) = h
      go (inl h) = absurd (cumulative.open_end (g.between.cum (suc c) (omega (arith, h))))

  -- a message that has a number has fewer before it than the plan has entries
  pub number_within : (l : Lane) (n : ℕ) (m : Message) → message_at w.sender.plan l n ≡ Some m → n < length w.sender.plan.entries
  number_within l n m named = go (g.arranged.begun l n m named) (lower_to (w.sender.plan.messages l) 0 n m (omega arith) named)
    where
      go : (i : ℕ) × (entry_at w.sender.plan i ≡ Some (Part l n 0)) → (y : Message) × (message_at w.sender.plan l 0 ≡ Some y) → n < length w.sender.plan.entries
      go (i, here) (y, first) = by n refl (g.arranged.begun l 0 y first)
        where
          by : (k : ℕ) → n ≡ k → (j : ℕ) × (entry_at w.sender.plan j ≡ Some (Part l 0 0)) → n < length w.sender.plan.entries
          by zero e b =
              let a = item_at-above w.sender.plan.entries i _ here in
              let c = item_at-within w.sender.plan.entries i _ here in
              omega (arith, a, c, e)
          by (suc k) e (j, there) =
              let s = spread w.format w.sender.plan g.arranged l 0 n j i (Part l 0 0) (Part l n 0) there (refl, refl) here (refl, refl) (omega (arith, e)) in
              let a = item_at-above w.sender.plan.entries j _ there in
              let c = item_at-within w.sender.plan.entries i _ here in
              omega (arith, s, a, c)
