use Rattle.std.proofs.Common.{Bool, subst}
use Rattle.sctp_chains.specs.StandsFor as lane
use Rattle.sctp_recv.specs.Filed.{lane_in}
use Rattle.sctp_recv.proofs.inbound.Inbound.is_held.Goals as goal

pub returns-then-unordered : goal.returns-then-unordered
returns-then-unordered g c = λ i l kept stands of.
    c.is_held.ensures i l kept (subst (λ (u : Bool). lane.StandsFor g.F.Framing.format (lane_in c.args.self.now u) l kept) c.if-unordered.true stands) of

pub returns : goal.returns
returns g c = λ i l kept stands of.
    c.is_held-2.ensures i l kept (subst (λ (u : Bool). lane.StandsFor g.F.Framing.format (lane_in c.args.self.now u) l kept) c.if-unordered.false stands) of
