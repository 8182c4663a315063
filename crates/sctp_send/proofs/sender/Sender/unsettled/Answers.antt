use Rattle.std.proofs.Common.{◌∙◌, subst, sym}
use Rattle.sctp_send.specs.SenderKept.{Kept}
use Rattle.sctp_send.specs.SenderStands.{StandsFor, Keeps}
use Rattle.sctp_send.proofs.ReaderLemmas.{some_is_unsettled, point_alone}
use Rattle.sctp_send.proofs.sender.Sender.unsettled.Goals as goal

pub returns-then-is_unsettled : goal.returns-then-is_unsettled
unfolding StandsFor
returns-then-is_unsettled g c = λ v stands.
    let s = c.self.inside in
    let keeps = subst (λ (k : Kept). Keeps g.F.Framing.format k v) (sym c.self.view_is) stands in
    some_is_unsettled g.F.Framing.format _ v keeps (sym (rw c.self.invariant.window at c.is_unsettled.ensures) ∙ c.if-is_unsettled.true)

pub returns : goal.returns
unfolding StandsFor
returns g c = λ v stands.
    let s = c.self.inside in
    let keeps = subst (λ (k : Kept). Keeps g.F.Framing.format k v) (sym c.self.view_is) stands in
    let is = point_alone g.F.Framing.format _ v keeps (sym (rw c.self.invariant.window at c.is_unsettled.ensures) ∙ c.if-is_unsettled.false) in
    rw (c.front.ensures s.told.fragment) is
