use Rattle.std.proofs.Common.{subst, sym}
use Rattle.std.proofs.lemmas.List.{length-map}
use Rattle.sctp_send.specs.OutstandingFields.{item_meaning}
use Rattle.sctp_send.specs.SenderKept.{Kept}
use Rattle.sctp_send.specs.SenderStands.{StandsFor, Keeps}
use Rattle.sctp_send.proofs.QueueLemmas.{promised_is}
use Rattle.sctp_send.proofs.sender.Sender.promised.Goals as goal

pub returns : goal.returns
unfolding StandsFor
returns g c = λ v stands.
    let s = c.self.inside in
    let keeps = subst (λ (k : Kept). Keeps g.F.Framing.format k v) (sym c.self.view_is) stands in
    let is = promised_is g.F.Framing.format _ v c.owed_by_accepted.result keeps (c.owed_by_accepted.ensures v stands) in
    let long = length-map s.parts.outstanding.items (item_meaning s.told.fragment) in
    rw c.len.ensures (rw long at is)
