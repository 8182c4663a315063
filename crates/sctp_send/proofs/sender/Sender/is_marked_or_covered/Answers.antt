use Rattle.std.proofs.Common.{◌∙◌, ◌-◌, ℕ, map, ap, arith}
use Rattle.sctp_send.specs.OutstandingFields.{item_meaning}
use Rattle.sctp_send.specs.SenderKept.{Kept}
use Rattle.sctp_send.specs.SenderStands.{StandsFor}
use Rattle.sctp_send.proofs.pace.PaceViews.{done_told, covered_is}
use Rattle.sctp_send.proofs.sender.Sender.is_marked_or_covered.Goals as goal

pub returns-then-index-self : goal.returns-then-index-self
unfolding StandsFor
returns-then-index-self g c = λ v stands some.
    let cum = ap (λ (k : Kept). k.cum) c.self.view_is in
    covered_is g.F.Framing.format c.args.self.now v c.args.index stands some (omega (arith, cum, c.if-index-self.true))

pub returns : goal.returns
unfolding StandsFor
returns g c = λ v stands some.
    let size = c.self.inside.told.fragment in
    let items = ap (λ (k : Kept). k.items) c.self.view_is in
    let cum = ap (λ (k : Kept). k.cum) c.self.view_is in
    c.is_done.ensures size ∙ done_told g.F.Framing.format c.args.self.now v c.args.index c.offset_of.result (map (item_meaning size) c.self.inside.parts.outstanding.items) stands items (c.offset_of.ensures ∙ ap (λ (n : ℕ). c.args.index - n - 1) cum) (omega (arith, cum, c.if-index-self.false))
