use Rattle.std.proofs.Common.{◌≡◌, ◌∙◌, ℕ, suc, ◌+◌, true, false, subst, sym, ap}
use Rattle.sctp_model.specs.sender.SenderView.{SenderView}
use Rattle.sctp_send.specs.SenderKept.{Kept}
use Rattle.sctp_send.specs.SenderStands.{StandsFor, Keeps}
use Rattle.sctp_send.specs.inner.Testing.{index_of}
use Rattle.sctp_send.proofs.abandon.WearLemmas.{wear_off}
use Rattle.sctp_send.proofs.sender.Sender.wear_passing.Goals as goal

pub returns-then-passes : goal.returns-then-passes
unfolding StandsFor
returns-then-passes g c = λ v missed stands tells.
    let cum = ap (λ (k : Kept). k.cum) c.self.view_is in
    let on : missed (suc (v.cum + c.args.at)) ≡ true =
    sym tells ∙ ap (λ (n : ℕ). g.T.IndexTest.Says c.args.test.now (index_of n c.args.at)) (sym cum) ∙ ap (g.T.IndexTest.Says c.args.test.now) (sym c.index_at.ensures) ∙ sym c.passes.ensures ∙ c.if-passes.true in
    c.wear_at.ensures v stands missed on

pub returns-else-passes : goal.returns-else-passes
unfolding StandsFor
returns-else-passes g c = λ v missed stands tells.
    let cum = ap (λ (k : Kept). k.cum) c.self.view_is in
    let off : missed (suc (v.cum + c.args.at)) ≡ false =
    sym tells ∙ ap (λ (n : ℕ). g.T.IndexTest.Says c.args.test.now (index_of n c.args.at)) (sym cum) ∙ ap (g.T.IndexTest.Says c.args.test.now) (sym c.index_at.ensures) ∙ sym c.passes.ensures ∙ c.if-passes.false in
    subst (λ (w : SenderView). Keeps g.F.Framing.format c.args.self.now w) (sym (wear_off missed v (suc (v.cum + c.args.at)) off)) stands
