-- What was in the window when its packet was built is near when the packet arrives, if not too many TSNs were assigned since: its index lies less than half
-- their space from the cumulative one, and from CUM.
use Rattle.std.proofs.Common.{◌≡◌, ℕ, zero, suc, ◌+◌, ◌≤◌, ◌⊎◌, true, length, inl, inr, refl, arith}
use Rattle.sctp_model.specs.numbers.Limits.{WINDOW}
use Rattle.sctp_model.specs.numbers.Serial.{IsWithinHalf}
use Rattle.sctp_model.specs.wire.Chunk.{PieceMeaning, ForwardMeaning}
use Rattle.sctp_model.specs.messages.Forward.{Forward}
use Rattle.sctp_model.specs.messages.Pieces.{piece_of, IsFragment}
use Rattle.sctp_safety.specs.Way.{Way}
use Rattle.sctp_safety.specs.ReceiverLaws.{IsCounted, IsIndexNear, IsPieceSaid, IsForwardSaid}
use Rattle.sctp_safety.proofs.lists.Basics.{item_at-within}
use Rattle.sctp_safety.proofs.moves.Facts.{Good, IsSendersForward, IsLostBy}
use Rattle.sctp_safety.proofs.receiving.ReadBounds.{cumulative_within, cum_within}
use Rattle.sctp_safety.proofs.runs.Dates.{IsYoung}

module _ (w : Way) (g : Good w) (counted : IsCounted w.sender) (since : ℕ) (young : IsYoung since (length w.sender.plan.entries)) where
  index_near : (i : ℕ) → i ≤ length w.sender.plan.entries → since ≤ i + WINDOW → IsIndexNear w.receiver i
  index_near i within window c cumulative =
      let low = cum_within w g c cumulative in
      let high = cumulative_within w g c cumulative in
      let ahead = counted.window in
      record { not_above = omega (arith, within, ahead, low); not_below = omega (arith, high, young, window) }

  pub cum_near : (i : ℕ) → i ≤ length w.sender.plan.entries → since ≤ i + WINDOW → w.sender.cum ≤ length w.sender.plan.entries → IsWithinHalf 32 i w.sender.cum
  cum_near i within window low =
      let ahead = counted.window in
      record { not_above = omega (arith, within, ahead); not_below = omega (arith, low, young, window) }

  -- ---- a data chunk

  module _ (p : PieceMeaning) (said : IsPieceSaid w.format w.sender.initial w.pieces p) where
    fragment : IsFragment w.format w.sender.plan (piece_of w.format said.index said.lane said.number said.fragment said.message)
    fragment = g.between.pieces (piece_of w.format said.index said.lane said.number said.fragment said.message) said.put

    pub piece_index_near : since ≤ said.index + WINDOW → IsIndexNear w.receiver said.index
    piece_index_near window = index_near said.index (item_at-within w.sender.plan.entries said.index _ fragment.here) window

  -- ---- a FORWARD

  module _ (m : ForwardMeaning) (said : IsForwardSaid w.format w.sender.initial w.sender.plan w.forwards m) where
    abbrev x : Forward
    x = said.forward

    fair : IsSendersForward w.format w.sender w.receiver x
    fair = g.between.forwards x said.put

    point_within : x.point ≤ length w.sender.plan.entries
    point_within = go x.point refl
      where
        by : (i : ℕ) → (w.receiver.seen i ≡ true) ⊎ IsLostBy w.format w.sender w.receiver x.skips i → i ≤ length w.sender.plan.entries
        by i (inl s) = let y = g.held.seen i s in item_at-within w.sender.plan.entries i _ y.here
        by i (inr y) = item_at-within w.sender.plan.entries i _ y.here

        go : (i : ℕ) → x.point ≡ i → i ≤ length w.sender.plan.entries
        go zero e = omega arith
        go (suc i) e = by (suc i) (fair.upto (suc i) (omega arith) (omega (arith, e)))

    pub point_near : since ≤ x.point + WINDOW → IsIndexNear w.receiver x.point
    point_near window = index_near x.point point_within window
