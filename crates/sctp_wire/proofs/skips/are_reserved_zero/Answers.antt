use Rattle.std.proofs.Common.{◌∙◌, sym, arith, refl}
use Rattle.std.proofs.lemmas.Grind.{common_steps}
use Rattle.sctp_wire.proofs.SkipLemmas.{zero-none, zero-some}
use Rattle.sctp_wire.proofs.skips.are_reserved_zero.Goals as goal

pub loop-rest-init : goal.loop-rest-init
loop-rest-init c = refl

pub loop-rest-preserved : goal.loop-rest-preserved
loop-rest-preserved c =
    let step = c.loop-rest.invariant ∙ zero-some c.loop-rest.rest.now (grind (arith, common_steps)) in
    grind (arith, common_steps)

pub returns : goal.returns
returns c = sym (c.loop-rest.invariant ∙ zero-none c.loop-rest.rest.now (grind (arith, common_steps)))

pub returns-then-read_u16-gt1 : goal.returns-then-read_u16-gt1
returns-then-read_u16-gt1 c =
    let step = c.loop-rest.invariant ∙ zero-some c.loop-rest.rest.now (grind (arith, common_steps)) in
    grind (arith, common_steps)
