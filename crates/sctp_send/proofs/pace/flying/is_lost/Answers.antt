use Rattle.std.proofs.Common.{◌∙◌, Bool, sym, ap}
use Rattle.std.specs.Prelude.{◌&&◌}
use Rattle.sctp_send.specs.inner.Testing.{index_of}
use Rattle.sctp_send.specs.inner.Weighing.{is_item_flying}
use Rattle.sctp_send.proofs.pace.HereLemmas.{here_read}
use Rattle.sctp_send.proofs.pace.flying.is_lost.Goals as goal

pub returns-then-not-is_flying : goal.returns-then-not-is_flying
returns-then-not-is_flying g c = λ size.
    let is = here_read is_item_flying size c.args.outstanding.now.items c.args.at c.get.result.now c.requires c.get.ensures in
    ap (λ (b : Bool). b && g.T.IndexTest.Says c.args.test.now (index_of c.args.cum c.args.at)) (sym c.if-not-is_flying.true ∙ c.is_flying.ensures size ∙ sym is)

pub returns : goal.returns
returns g c = λ size.
    let is = here_read is_item_flying size c.args.outstanding.now.items c.args.at c.get.result.now c.requires c.get.ensures in
    c.passes.ensures ∙ ap (g.T.IndexTest.Says c.args.test.now) c.index_at.ensures
    ∙ ap (λ (b : Bool). b && g.T.IndexTest.Says c.args.test.now (index_of c.args.cum c.args.at)) (sym c.if-not-is_flying.false ∙ c.is_flying.ensures size ∙ sym is)
