use Rattle.std.proofs.Common.{◌≡◌, ◌∙◌, ◌+◌, ◌-◌, ◌<◌, ℕ, length, map, sym, ap, arith}
use Rattle.sctp_model.specs.sender.Words.{last_that}
use Rattle.sctp_send.specs.OutstandingFields.{item_meaning}
use Rattle.sctp_send.specs.inner.Weighing.{is_item_sent, passes_here}
use Rattle.sctp_send.proofs.pace.HereLemmas.{here_read}
use Rattle.sctp_send.proofs.pace.SentLemmas.{last_here, last_before}
use Rattle.sctp_send.proofs.pace.last.last_out.Goals as goal

pub returns-then-is_out : goal.returns-then-is_out
returns-then-is_out c = λ size.
    let es = c.args.outstanding.now.items in
    let at = c.args.to - c.loop-back.back in
    let within = c.loop-back-test.true in
    let lt : at - 1 < length es = omega (arith, within, c.requires) in
    let here = here_read is_item_sent size es (at - 1) c.get.result.now lt c.get.ensures ∙ sym (c.is_out.ensures size) ∙ c.if-is_out.true in
    sym (c.loop-back.invariant size ∙ last_here (λ j. passes_here is_item_sent (map (item_meaning size) es) (j - 1)) at (omega (arith, within)) here)

pub loop-back-preserved : goal.loop-back-preserved
loop-back-preserved c = λ size.
    let es = c.args.outstanding.now.items in
    let at = c.args.to - c.loop-back.back in
    let within = c.loop-back-test.true in
    let lt : at - 1 < length es = omega (arith, within, c.requires) in
    let here = here_read is_item_sent size es (at - 1) c.get.result.now lt c.get.ensures ∙ sym (c.is_out.ensures size) ∙ c.if-is_out.false in
    c.loop-back.invariant size ∙ last_before (λ j. passes_here is_item_sent (map (item_meaning size) es) (j - 1)) at (c.args.to - (c.loop-back.back + 1)) (omega (arith, within)) here

pub returns : goal.returns
returns c = λ size.
    let on = λ (j : ℕ). passes_here is_item_sent (map (item_meaning size) c.args.outstanding.now.items) (j - 1) in
    let none : c.args.to - c.loop-back.back ≡ 0 = omega (arith, c.loop-back-test.false) in
    sym (c.loop-back.invariant size ∙ ap (last_that on) none)
