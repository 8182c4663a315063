use Rattle.std.proofs.Common.{ap, nat_lt}
use Rattle.sctp_model.specs.sender.SackTaken.{sack_after}
use Rattle.sctp_wire.specs.ChunkTree.{sack_meaning}
use Rattle.sctp_association.proofs.HearingLemmas.{less_as}
use Rattle.sctp_association.proofs.traffic.acknowledging.take_sack.Goals as goal

pub returns-in-Ok-clause-left : goal.returns-in-Ok-clause-left
returns-in-Ok-clause-left g c = λ s stands.
    let u = sack_after s (sack_meaning c.args.sack.now) in
    let now = c.in-Ok.ensures.step s stands in
    record {
      moved = less_as _ _ _ _ (c.cum-before.ensures s stands) (c.cum-cum.ensures u now);
      wanted = c.unsettled.ensures u now;
      past = less_as _ _ _ _ (c.cum-cum.ensures u now) (c.point.ensures u now);
      flies = ap (nat_lt 0) (c.in_flight.ensures u now);
    }
