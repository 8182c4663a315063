use Rattle.std.proofs.Common.{subst, sym}
use Rattle.sctp_send.specs.SenderKept.{Kept}
use Rattle.sctp_send.specs.SenderStands.{StandsFor, Keeps}
use Rattle.sctp_send.proofs.QueueLemmas.{owed_is}
use Rattle.sctp_send.proofs.sender.Sender.owed_by_accepted.Goals as goal

pub returns : goal.returns
unfolding StandsFor
returns g c = λ v stands.
    let keeps = subst (λ (k : Kept). Keeps g.F.Framing.format k v) (sym c.self.view_is) stands in
    rw (c.owed.ensures, c.owed-2.ensures, c.self.invariant.queue, c.self.invariant.tracks) (owed_is g.F.Framing.format _ v keeps)
