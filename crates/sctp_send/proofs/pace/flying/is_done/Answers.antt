use Rattle.std.proofs.Common.{◌∙◌, ◌<◌, length, refl, sym, arith}
use Rattle.sctp_send.specs.inner.Weighing.{is_item_done}
use Rattle.sctp_send.proofs.pace.HereLemmas.{here_read, here_past}
use Rattle.sctp_send.proofs.pace.flying.is_done.Goals as goal

pub returns-then-at-len : goal.returns-then-at-len
returns-then-at-len c = λ size. sym (here_past is_item_done size c.args.outstanding.now.items c.args.at (omega (arith, c.if-at-len.true, c.len.ensures)))

pub returns-then-is_repeat : goal.returns-then-is_repeat
returns-then-is_repeat c = λ size.
    let lt : c.args.at < length c.args.outstanding.now.items = omega (arith, c.if-at-len.false, c.len.ensures) in
    let is = here_read is_item_done size c.args.outstanding.now.items c.args.at c.get-entry.result.now lt c.get-entry.ensures in
    let marked = sym (c.is_repeat.ensures size) ∙ c.if-is_repeat.true in
    c.if-is_repeat.true ∙ sym (is ∙ rw marked refl)

pub returns-else-is_repeat : goal.returns-else-is_repeat
returns-else-is_repeat c = λ size.
    let lt : c.args.at < length c.args.outstanding.now.items = omega (arith, c.if-at-len.false, c.len.ensures) in
    let is = here_read is_item_done size c.args.outstanding.now.items c.args.at c.get-entry.result.now lt c.get-entry.ensures in
    let marked = sym (c.is_repeat.ensures size) ∙ c.if-is_repeat.false in
    sym (is ∙ rw marked refl)
