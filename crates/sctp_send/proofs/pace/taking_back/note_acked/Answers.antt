use Rattle.std.proofs.Common.{◌∙◌, ◌++◌, [], ◌∷◌, ℕ, Bool, map, sym, ap, append-nil}
use Rattle.std.specs.Prelude.{if◌then◌else◌}
use Rattle.sctp_send.specs.inner.Testing.{index_of}
use Rattle.sctp_send.specs.inner.Weighing.{is_item_acked}
use Rattle.sctp_send.proofs.pace.HereLemmas.{here_read}
use Rattle.sctp_send.proofs.pace.taking_back.note_acked.Goals as goal

pub returns-then-not-is_acked : goal.returns-then-not-is_acked
returns-then-not-is_acked c = λ size.
    let here = here_read is_item_acked size c.args.outstanding.now.items c.args.at c.get.result.now c.requires c.get.ensures in
    let off = here ∙ sym (c.is_acked.ensures size) ∙ c.if-not-is_acked.true in
    sym (append-nil c.args.back.now.items) ∙ ap (λ (b : Bool). c.args.back.now.items ++ map (index_of c.args.cum) (if b then c.args.at ∷ [] else [])) (sym off)

pub returns-in-Ok : goal.returns-in-Ok
returns-in-Ok c = λ size.
    let here = here_read is_item_acked size c.args.outstanding.now.items c.args.at c.get.result.now c.requires c.get.ensures in
    let on = here ∙ sym (c.is_acked.ensures size) ∙ c.if-not-is_acked.false in
    c.in-Ok.ensures.items ∙ ap (λ (i : ℕ). c.args.back.now.items ++ i ∷ []) c.index_at.ensures
    ∙ ap (λ (b : Bool). c.args.back.now.items ++ map (index_of c.args.cum) (if b then c.args.at ∷ [] else [])) (sym on)
