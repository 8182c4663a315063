use Rattle.std.proofs.Common.{◌≡◌, true, sym, subst}
use Rattle.std.specs.Prelude.{IfSome, ◌||◌}
use Rattle.sctp_model.specs.messages.Format.{Format}
use Rattle.sctp_model.specs.sender.SenderView.{SenderView}
use Rattle.sctp_model.specs.receiver.ReceiverView.{ReceiverView}
use Rattle.sctp_model.specs.end.Trips.{Trips}
use Rattle.sctp_model.specs.end.Pacing.{Pace}
use Rattle.sctp_congestion.specs.PaceStands.{PaceStands}
use Rattle.sctp_congestion.specs.Weighs.{remarked, Weighs}
use Rattle.sctp_association.specs.TrafficStands.{TrafficStands}
use Rattle.sctp_association.specs.Weighing.{IsBefore, counted}
use Rattle.sctp_association.proofs.FollowLemmas.{covers_acked, weighs}
use Rattle.sctp_association.proofs.peer.responding.respond.Goals as goal

said : (c : goal.After-hear) (f : Format) (v u : SenderView) (r : ReceiverView) (p : Pace) → TrafficStands c.args.traffic.now f u r → IsBefore f v u p c.args.before
    → PaceStands f u.cum c.args.pace.now (counted v u p)
    → Weighs f v u p (record {
      moved = c.args.before.weight.moved;
      cum = c.args.before.weight.cum;
      waits = c.args.before.waits;
      lost = c.mark_missed-lost.result;
      last_sent = c.last_sent_if-last_sent.result;
      flight = c.args.before.flight;
      bytes = c.args.before.weight.bytes;
      left = c.chunk_flight-left.result;
      acked = c.args.before.weight.acked;
      over = c.is_over-over.result;
    })
said c f v u r p stands before paces =
    let w : SenderView = remarked v u p in
    let marked = c.mark_missed-lost.ensures.marked f u r (counted v u p) stands before.weight.cum paces in
    let timed = covers_acked v u p.trips.timed c.args.before.weight.acked before.weight.acked in
    let kept = subst (λ (x : Trips). IfSome x.timed (λ t. c.args.before.weight.acked ≡ true → u.covered t.index ≡ true)) (sym paces.trips) timed in
    weighs f v u p c.args.before c.mark_missed-lost.result c.last_sent_if-last_sent.result c.chunk_flight-left.result c.is_over-over.result before
    (c.mark_missed-lost.ensures.lost f u r (counted v u p) stands before.weight.cum paces) (c.last_sent_if-last_sent.ensures f w r marked) (c.chunk_flight-left.ensures f w r marked)
    (subst (λ (x : Trips). IfSome x.timed (λ t. c.is_over-over.result ≡ (w.marked t.index || w.covered t.index))) paces.trips (c.is_over-over.ensures f w r marked kept))

pub returns-clause-pace : goal.returns-clause-pace
returns-clause-pace c = λ f v u r p stands before paces. c.hear.ensures.step f v u p paces (said c f v u r p stands before paces)

pub returns-clause-traffic : goal.returns-clause-traffic
returns-clause-traffic c = λ f v u r p stands before paces. c.mark_missed-lost.ensures.marked f u r (counted v u p) stands before.weight.cum paces

pub returns-clause-reply : goal.returns-clause-reply
returns-clause-reply c = λ f v u r p stands before paces. record {
  trip = c.hear.ensures.trip f v u p paces (said c f v u r p stands before paces);
  moved = c.hear.ensures.moved f v u p paces (said c f v u r p stands before paces);
  restarts = c.hear.ensures.restarts f v u p paces (said c f v u r p stands before paces);
}
