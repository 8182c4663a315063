use Rattle.std.proofs.Common.{subst, sym}
use Rattle.sctp_send.specs.SenderKept.{Kept}
use Rattle.sctp_send.specs.SenderStands.{StandsFor, Keeps}
use Rattle.sctp_send.specs.inner.UserData.{user_data}
use Rattle.sctp_send.proofs.kept.QueuedOnLemmas.{fragment_some, queued_on_is, queued_on_fit}
use Rattle.sctp_send.proofs.kept.UserLemmas.{user_on_is}
use Rattle.sctp_send.proofs.sender.Sender.queued_bytes_on.Goals as goal

pub returns-then-are_of_user_data-clause-bytes : goal.returns-then-are_of_user_data-clause-bytes
unfolding StandsFor
returns-then-are_of_user_data-clause-bytes g c = λ v stands.
    let keeps = subst (λ (k : Kept). Keeps g.F.Framing.format k v) (sym c.self.view_is) stands in
    rw (c.are_of_user_data.ensures c.if-are_of_user_data.true, c.user_bytes_on.ensures, c.self.invariant.queue) (user_on_is g.F.Framing.format _ v c.args.stream keeps)

pub returns-then-are_of_user_data-clause-bound : goal.returns-then-are_of_user_data-clause-bound
unfolding StandsFor
returns-then-are_of_user_data-clause-bound g c = λ v stands.
    let keeps = subst (λ (k : Kept). Keeps g.F.Framing.format k v) (sym c.self.view_is) stands in
    let fits = queued_on_fit g.F.Framing.format _ v c.args.stream user_data keeps in
    rw (c.user_bytes_on.ensures, c.self.invariant.queue, user_on_is g.F.Framing.format _ v c.args.stream keeps) fits

pub returns-clause-bytes : goal.returns-clause-bytes
unfolding StandsFor
returns-clause-bytes g c = λ v stands.
    let keeps = subst (λ (k : Kept). Keeps g.F.Framing.format k v) (sym c.self.view_is) stands in
    let some = fragment_some g.F.Framing.format _ v keeps in
    rw (c.bytes_on.ensures (rw c.self.invariant.queue some), c.self.invariant.queue) (queued_on_is g.F.Framing.format _ v c.args.stream c.args.payload_ids.now keeps)

pub returns-clause-bound : goal.returns-clause-bound
unfolding StandsFor
returns-clause-bound g c = λ v stands.
    let keeps = subst (λ (k : Kept). Keeps g.F.Framing.format k v) (sym c.self.view_is) stands in
    let some = fragment_some g.F.Framing.format _ v keeps in
    let fits = queued_on_fit g.F.Framing.format _ v c.args.stream c.args.payload_ids.now keeps in
    rw (c.bytes_on.ensures (rw c.self.invariant.queue some), c.self.invariant.queue, queued_on_is g.F.Framing.format _ v c.args.stream c.args.payload_ids.now keeps) fits
