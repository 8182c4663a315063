use Rattle.std.proofs.Common.{subst, sym}
use Rattle.std.proofs.lemmas.List.{length-map}
use Rattle.sctp_send.specs.OutstandingFields.{item_meaning}
use Rattle.sctp_send.specs.SenderKept.{Kept}
use Rattle.sctp_send.specs.SenderStands.{StandsFor, Keeps}
use Rattle.sctp_send.proofs.ReaderLemmas.{outstanding_is, outstanding_fits}
use Rattle.sctp_send.proofs.sender.Sender.outstanding.Goals as goal

pub returns-clause-count : goal.returns-clause-count
unfolding StandsFor
returns-clause-count g c = λ v stands.
    let s = c.self.inside in
    let keeps = subst (λ (k : Kept). Keeps g.F.Framing.format k v) (sym c.self.view_is) stands in
    let is = outstanding_is g.F.Framing.format _ v keeps in
    let long = length-map s.parts.outstanding.items (item_meaning s.told.fragment) in
    let parts = rw c.self.invariant.tracks at c.in_part.ensures in
    rw (c.count_of.ensures, parts) (rw long at is)

pub returns-clause-bound : goal.returns-clause-bound
unfolding StandsFor
returns-clause-bound g c = λ v stands.
    let s = c.self.inside in
    let keeps = subst (λ (k : Kept). Keeps g.F.Framing.format k v) (sym c.self.view_is) stands in
    let is = outstanding_is g.F.Framing.format _ v keeps in
    let long = length-map s.parts.outstanding.items (item_meaning s.told.fragment) in
    let parts = rw c.self.invariant.tracks at c.in_part.ensures in
    let counted = rw long at is in
    rw (c.count_of.ensures, parts, counted) (outstanding_fits g.F.Framing.format _ v keeps)
