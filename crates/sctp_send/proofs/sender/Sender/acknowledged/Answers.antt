use Rattle.std.proofs.Common.{◌∙◌, subst, sym, ap, inl, inr, arith}
use Rattle.sctp_send.specs.SenderKept.{Kept}
use Rattle.sctp_send.specs.SenderStands.{StandsFor, Keeps}
use Rattle.sctp_send.specs.inner.Walks.{is_numbered_fate}
use Rattle.sctp_send.proofs.TicketLemmas.{numbered_acknowledged, other_acknowledged, numbered_read, not_acknowledged}
use Rattle.sctp_send.proofs.sender.Sender.acknowledged.Goals as goal

pub returns-then-at-eq0 : goal.returns-then-at-eq0
unfolding StandsFor
returns-then-at-eq0 g c = λ v stands.
    sym (not_acknowledged g.F.Framing.format _ v c.args.ticket.0 stands (inl (omega arith)))

pub returns-then-at-len : goal.returns-then-at-len
unfolding StandsFor
returns-then-at-len g c = λ v stands.
    let s = c.self.inside in
    let keeps = subst (λ (k : Kept). Keeps g.F.Framing.format k v) (sym c.self.view_is) stands in
    sym (not_acknowledged g.F.Framing.format _ v c.args.ticket.0 keeps (inr (omega arith)))

pub returns-then-not-is_numbered : goal.returns-then-not-is_numbered
unfolding StandsFor
returns-then-not-is_numbered g c = λ v stands.
    let s = c.self.inside in
    let keeps = subst (λ (k : Kept). Keeps g.F.Framing.format k v) (sym c.self.view_is) stands in
    let fate = ap is_numbered_fate c.get-fate.ensures ∙ numbered_read g.F.Framing.format _ v c.args.ticket.0 c.get-fate.result keeps (omega arith) (omega arith) in
    sym (other_acknowledged g.F.Framing.format _ v c.args.ticket.0 keeps (sym fate ∙ sym c.is_numbered.ensures ∙ c.if-not-is_numbered.true))

pub returns : goal.returns
unfolding StandsFor
returns g c = λ v stands.
    let s = c.self.inside in
    let keeps = subst (λ (k : Kept). Keeps g.F.Framing.format k v) (sym c.self.view_is) stands in
    let fate = ap is_numbered_fate c.get-fate.ensures ∙ numbered_read g.F.Framing.format _ v c.args.ticket.0 c.get-fate.result keeps (omega arith) (omega arith) in
    let is = numbered_acknowledged g.F.Framing.format _ v c.args.ticket.0 keeps (sym fate ∙ sym c.is_numbered.ensures ∙ c.if-not-is_numbered.false) in
    rw (c.is_all_covered.ensures s.told.fragment) is
