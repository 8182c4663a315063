use Rattle.std.proofs.Common.{◌∙◌, subst, sym, ap, arith, inl, inr}
use Rattle.sctp_send.specs.SenderKept.{Kept}
use Rattle.sctp_send.specs.SenderStands.{StandsFor, Keeps}
use Rattle.sctp_send.specs.inner.Walks.{is_abandoned_fate}
use Rattle.sctp_send.proofs.ReaderLemmas.{is_abandoned_at, no_ticket}
use Rattle.sctp_send.proofs.sender.Sender.abandoned.Goals as goal

pub returns-then-at-eq0 : goal.returns-then-at-eq0
unfolding StandsFor
returns-then-at-eq0 g c = λ v stands.
    sym (no_ticket g.F.Framing.format _ v c.args.ticket.0 stands (inl (omega arith)))

pub returns-then-at-len : goal.returns-then-at-len
unfolding StandsFor
returns-then-at-len g c = λ v stands.
    let s = c.self.inside in
    let keeps = subst (λ (k : Kept). Keeps g.F.Framing.format k v) (sym c.self.view_is) stands in
    sym (no_ticket g.F.Framing.format _ v c.args.ticket.0 keeps (inr (omega arith)))

pub returns : goal.returns
unfolding StandsFor
returns g c = λ v stands.
    let s = c.self.inside in
    let keeps = subst (λ (k : Kept). Keeps g.F.Framing.format k v) (sym c.self.view_is) stands in
    c.was_abandoned.ensures ∙ ap is_abandoned_fate c.get-fate.ensures ∙ is_abandoned_at g.F.Framing.format _ v c.args.ticket.0 c.get-fate.result keeps (omega arith) (omega arith)
