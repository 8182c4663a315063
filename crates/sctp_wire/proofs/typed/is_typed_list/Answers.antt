use Rattle.std.proofs.Common.{◌≡◌, true, false, ◌∙◌, sym, arith}
use Rattle.std.proofs.lemmas.Grind.{common_steps}
use Rattle.sctp_model.specs.wire.Typed.{starts_typed}
use Rattle.sctp_wire.proofs.AsWrittenLemmas.{listed_same, listed_at_end, behind_shorter}
use Rattle.sctp_wire.proofs.typed.is_typed_list.Goals as goal

pub loop-rest-smaller : goal.loop-rest-smaller
loop-rest-smaller c =
    let begins : starts_typed c.loop-rest.rest.now ≡ true = grind (arith, common_steps) in
    rw c.split_first.ensures.rest (behind_shorter c.loop-rest.rest.now begins)

pub loop-rest-preserved : goal.loop-rest-preserved
loop-rest-preserved c =
    let begins : starts_typed c.loop-rest.rest.now ≡ true = grind (arith, common_steps) in
    c.loop-rest.invariant ∙ rw c.split_first.ensures.rest (listed_same c.loop-rest.rest.now begins)

pub returns : goal.returns
returns c =
    let none : starts_typed c.loop-rest.rest.now ≡ false = grind (arith, common_steps) in
    c.is_empty.ensures ∙ sym (c.loop-rest.invariant ∙ listed_at_end c.loop-rest.rest.now none)
