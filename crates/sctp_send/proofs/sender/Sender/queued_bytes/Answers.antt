use Rattle.std.proofs.Common.{subst, sym}
use Rattle.sctp_send.specs.SenderKept.{Kept}
use Rattle.sctp_send.specs.SenderStands.{StandsFor, Keeps}
use Rattle.sctp_send.proofs.kept.LoadLemmas.{queued_bytes_is, queued_bytes_fit}
use Rattle.sctp_send.proofs.sender.Sender.queued_bytes.Goals as goal

pub returns-clause-bytes : goal.returns-clause-bytes
unfolding StandsFor
returns-clause-bytes g c = λ v stands.
    let keeps = subst (λ (k : Kept). Keeps g.F.Framing.format k v) (sym c.self.view_is) stands in
    rw (c.bytes.ensures, c.self.invariant.queue) (queued_bytes_is g.F.Framing.format _ v keeps)

pub returns-clause-bound : goal.returns-clause-bound
unfolding StandsFor
returns-clause-bound g c = λ v stands.
    let keeps = subst (λ (k : Kept). Keeps g.F.Framing.format k v) (sym c.self.view_is) stands in
    rw (c.bytes.ensures, c.self.invariant.queue, queued_bytes_is g.F.Framing.format _ v keeps) (queued_bytes_fit g.F.Framing.format _ v keeps)
