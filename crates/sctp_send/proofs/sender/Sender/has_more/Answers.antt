use Rattle.std.proofs.Common.{◌∙◌, ℕ, map, subst, sym, ap, arith}
use Rattle.std.proofs.lemmas.List.{length-map}
use Rattle.sctp_send.specs.OutstandingFields.{item_meaning}
use Rattle.sctp_send.specs.SenderKept.{Kept}
use Rattle.sctp_send.specs.SenderFields.{queued_by}
use Rattle.sctp_send.specs.SenderStands.{StandsFor, Keeps}
use Rattle.sctp_send.specs.inner.Wishing.{some_pending}
use Rattle.sctp_send.proofs.MoreLemmas.{more_waits, more_in_part, more_pending}
use Rattle.sctp_send.proofs.sender.Sender.has_more.Goals as goal

pub returns-then-len-gt0 : goal.returns-then-len-gt0
unfolding StandsFor
returns-then-len-gt0 g c = λ v stands.
    let s = c.self.inside in
    let keeps = subst (λ (k : Kept). Keeps g.F.Framing.format k v) (sym c.self.view_is) stands in
    let long = length-map s.parts.queue.items (queued_by s.told.fragment) in
    more_waits g.F.Framing.format _ v keeps (omega arith)

pub returns-then-in_part-gt0 : goal.returns-then-in_part-gt0
unfolding StandsFor
returns-then-in_part-gt0 g c = λ v stands.
    let s = c.self.inside in
    let keeps = subst (λ (k : Kept). Keeps g.F.Framing.format k v) (sym c.self.view_is) stands in
    let long = length-map s.parts.queue.items (queued_by s.told.fragment) in
    let parts = rw c.self.invariant.tracks at c.in_part.ensures in
    more_in_part g.F.Framing.format _ v keeps (omega arith) (omega (arith, parts))

pub returns : goal.returns
unfolding StandsFor
returns g c = λ v stands.
    let s = c.self.inside in
    let keeps = subst (λ (k : Kept). Keeps g.F.Framing.format k v) (sym c.self.view_is) stands in
    let long = length-map s.parts.queue.items (queued_by s.told.fragment) in
    let parts = rw c.self.invariant.tracks at c.in_part.ensures in
    c.has_pending.ensures ∙ ap (λ (n : ℕ). some_pending (map (item_meaning n) s.parts.outstanding.items)) c.self.invariant.window
    ∙ more_pending g.F.Framing.format _ v keeps (omega arith) (omega (arith, parts))
