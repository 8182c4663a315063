use Rattle.std.proofs.Common.{subst, sym, arith}
use Rattle.std.proofs.lemmas.List.{length-map}
use Rattle.sctp_send.specs.SenderKept.{Kept}
use Rattle.sctp_send.specs.SenderFields.{queued_by}
use Rattle.sctp_send.specs.SenderStands.{StandsFor, Keeps}
use Rattle.sctp_send.proofs.kept.LoadLemmas.{queued_fits}
use Rattle.sctp_send.proofs.sender.Sender.queued.Goals as goal

pub returns-clause-bound : goal.returns-clause-bound
unfolding StandsFor
returns-clause-bound g c = λ v stands.
    let s = c.self.inside in
    let keeps = subst (λ (k : Kept). Keeps g.F.Framing.format k v) (sym c.self.view_is) stands in
    let few = queued_fits g.F.Framing.format _ v keeps in
    omega (arith, c.len.ensures, length-map s.parts.queue.items (queued_by s.told.fragment), few)
