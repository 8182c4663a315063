use Rattle.std.proofs.Common.{subst, sym, arith}
use Rattle.sctp_send.specs.SenderKept.{Kept}
use Rattle.sctp_send.specs.SenderStands.{StandsFor, Keeps}
use Rattle.sctp_send.proofs.QueueLemmas.{fates_given}
use Rattle.sctp_send.proofs.sender.Sender.tickets.Goals as goal

pub returns : goal.returns
unfolding StandsFor
returns g c = λ v stands.
    let keeps = subst (λ (k : Kept). Keeps g.F.Framing.format k v) (sym c.self.view_is) stands in
    let given = fates_given g.F.Framing.format _ v keeps in
    omega (arith, given)
