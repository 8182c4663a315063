use Rattle.std.proofs.Common.{subst, sym}
use Rattle.sctp_send.specs.SenderKept.{Kept}
use Rattle.sctp_send.specs.SenderStands.{StandsFor, Keeps}
use Rattle.sctp_send.proofs.ReaderLemmas.{point_is}
use Rattle.sctp_send.proofs.sender.Sender.point.Goals as goal

pub returns : goal.returns
unfolding StandsFor
returns g c = λ v stands.
    let s = c.self.inside in
    let keeps = subst (λ (k : Kept). Keeps g.F.Framing.format k v) (sym c.self.view_is) stands in
    let is = point_is g.F.Framing.format _ v keeps in
    rw (c.from.ensures, c.abandoned_run.ensures s.told.fragment) is
