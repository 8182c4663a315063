-- Both receivers are at rest and within their buffers; both plans are orderly, and both senders as their calls leave them.
use Rattle.std.proofs.Common.{◌≡◌, ◌<◌, List, [], refl, sym, subst, arith, ◌∙◌}
use Rattle.sctp_model.specs.receiver.Laws.{IsAtRest}
use Rattle.sctp_model.proofs.receiver.AtRest.{fresh_at_rest, piece_at_rest, sent_at_rest, take_at_rest, reset_at_rest}
use Rattle.sctp_model.proofs.receiver.ForwardAtRest.{forward_at_rest}
use Rattle.sctp_model.specs.end.EndView.{Configuration, format_of}
use Rattle.sctp_model.specs.world.World.{Side, A, B, World, end_of, Setup, configuration_of, start}
use Rattle.sctp_model.specs.world.Events.{Event}
use Rattle.sctp_model.specs.world.Steps.{Rest}
use Rattle.sctp_model.specs.world.Premises.{IsReachable}
use Rattle.sctp_safety.proofs.machine.DiagramRuns.{ends_follow_the_diagram}
use Rattle.sctp_safety.proofs.sending.OrderlyCalls.{plan_stays_orderly}
use Rattle.sctp_outcomes.specs.Views.{SendersAreInOrder, BothSendersAreInOrder, ReceiversAreAtRest, BuffersHold}
use Rattle.sctp_outcomes.proofs.Receivers.{IsReceiverLaw, Whatever, holds_always}
use Rattle.sctp_outcomes.proofs.Buffers.{IsOfBuffer, buffer_law}
use Rattle.sctp_outcomes.proofs.Reaching.{senders_reached}

-- ---- receivers

rest_law : IsReceiverLaw (Whatever IsAtRest)
rest_law = record {
  fresh = λ f i n b v. fresh_at_rest f i n b v;
  piece = λ f b r p a t o came. piece_at_rest f r p a t o came;
  forward = λ f b r m a t o came. forward_at_rest f r m a t o came;
  sent = λ f b r o. sent_at_rest f r o;
  taken = λ f b r s h t o takes. take_at_rest f r s h t o takes;
  reset = λ f b r x o. reset_at_rest f r x o;
}

pub receivers_are_at_rest : ReceiversAreAtRest
receivers_are_at_rest s events answers w run x = holds_always (Whatever IsAtRest) rest_law s events answers w run x

pub buffers_hold : BuffersHold
buffers_hold s events answers w run x =
    let held = holds_always IsOfBuffer buffer_law s events answers w run x in
    record { same = held.same; fits = held.fits }

-- ---- senders

pub senders_are_in_order : SendersAreInOrder
senders_are_in_order s events answers w run x some =
    let reached = senders_reached s events answers w run x some in
    record { plan = plan_stays_orderly (format_of (end_of w x)) (end_of w x).sender reached; reached = reached }

-- an endpoint is set up as its pair was
configured_so : (s : Setup) (x : Side) → (end_of (start s) x).configuration ≡ configuration_of s x
configured_so s A = refl
configured_so s B = refl

fragments_hold : (s : Setup) (events : List Event) (w : World) → IsReachable s events w → (x : Side) → 0 < (end_of w x).configuration.fragment
fragments_hold s events w r x =
    let later = ends_follow_the_diagram s [] events [] r.answers (start s) w (Rest (start s)) r.run x in
    let same = later.configuration ∙ configured_so s x in
    subst (λ (c : Configuration). 0 < c.fragment) (sym same) (omega (arith, (r.configured x).fragment.0))

pub both_senders_are_in_order : BothSendersAreInOrder
both_senders_are_in_order s events w r x = senders_are_in_order s events r.answers w r.run x (fragments_hold s events w r x)
