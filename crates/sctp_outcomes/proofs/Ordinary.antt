-- In every world both receivers keep each chunk in a place of its own: so each of their steps has one result.
use Rattle.std.proofs.Common.{ℕ, Option, Some, None, sym, subst}
use Rattle.sctp_model.specs.messages.Format.{Format}
use Rattle.sctp_model.specs.receiver.ReceiverView.{Handed, ReceiverView}
use Rattle.sctp_model.specs.receiver.SackMade.{TakeLeaves}
use Rattle.sctp_model.specs.receiver.Laws.{IsOrdinary}
use Rattle.sctp_model.proofs.receiver.AtRest.{piece_ordinary}
use Rattle.sctp_model.proofs.receiver.ForwardAtRest.{forward_ordinary}
use Rattle.sctp_outcomes.proofs.Receivers.{IsReceiverLaw, Whatever}

-- the same chunks are kept, and the same indexes recorded
by_taking : (f : Format) (r : ReceiverView) (s : ℕ) (h : Option Handed) (t : ReceiverView) → IsOrdinary f r → TakeLeaves r s h t → IsOrdinary f t
by_taking f r s None t o (none, is) = subst (IsOrdinary f) (sym is) o
by_taking f r s (Some h) t o (rest, waits, is) = subst (IsOrdinary f) (sym is) (record { apart = o.apart; recorded = o.recorded })

pub ordinary_law : IsReceiverLaw (Whatever IsOrdinary)
ordinary_law = record {
  fresh = λ f i n b v. record { apart = λ x y none other place. elim none [ ]; recorded = λ y none. elim none [ ] };
  piece = λ f b r p a t o came. piece_ordinary f r p a t o came;
  forward = λ f b r m a t o came. forward_ordinary f r m a t o came;
  sent = λ f b r o. record { apart = o.apart; recorded = o.recorded };
  taken = λ f b r s h t o takes. by_taking f r s h t o takes;
  reset = λ f b r x o. record { apart = o.apart; recorded = o.recorded };
}
