use Rattle.std.proofs.Common.{◌≡◌, ◌+◌, true, length, take, sym, ◌∙◌, ap, length-append, arith}
use Rattle.std.specs.Prelude.{Result, Ok, Err, IsOk, is_err}
use Rattle.std.proofs.lemmas.Grind.{common_steps}
use Rattle.sctp_recv.specs.Parts.{text_of_parts}
use Rattle.sctp_recv.proofs.PartLemmas.{text_more, length_more, text_within}
use Rattle.sctp_recv.proofs.message.Message.copy_to.Goals as goal

-- no result is both
no_both : {T E : Type 0} (r : Result T E) → IsOk r → is_err r ≡ true → ⊥
no_both (Ok x) done failed = absurd (cc)
no_both (Err e) done failed = absurd (cc)

pub loop-part-preserved : goal.loop-part-preserved
loop-part-preserved c =
    let at = c.part-item.is in
    let more = text_more c.parts-parts.result.now c.loop-part.part-index c.part-item.result (omega arith) at in
    let old = c.loop-part.invariant.items in
    let new = c.extend_from_slice.ensures.items in
    record { before = c.loop-part.invariant.before; capacity = omega (arith, c.extend_from_slice.ensures.capacity); items = grind (arith, common_steps) }

pub returns-then-is_err-clause-memory : goal.returns-then-is_err-clause-memory
returns-then-is_err-clause-memory c = λ fits.
    let parts = c.parts-parts.result.now in
    let at = c.part-item.is in
    let more = length_more parts c.loop-part.part-index c.part-item.result (omega arith) at in
    let within = text_within parts (c.loop-part.part-index + 1) in
    let before = ap length c.loop-part.invariant.items ∙ length-append c.args.out.now.items (text_of_parts (take c.loop-part.part-index parts)) in
    let part = ap length c.deref.ensures.value in
    let whole = ap length c.parts-parts.ensures in
    let done = c.extend_from_slice.ensures.succeeds (omega (arith, fits, whole, more, within, before, part, c.loop-part.invariant.capacity, c.loop-part.out.ok, c.args.out.now.ok)) in
    let failed = sym c.is_err.ensures.value ∙ c.if-is_err.true in
    absurd (no_both c.extend_from_slice.result done failed)

pub returns-then-is_err-clause-refused : goal.returns-then-is_err-clause-refused
returns-then-is_err-clause-refused c = grind (arith, common_steps)

pub returns-clause-copied : goal.returns-clause-copied
returns-clause-copied c = grind (arith, common_steps)
