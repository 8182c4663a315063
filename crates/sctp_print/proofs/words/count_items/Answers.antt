use Rattle.std.proofs.Common.{◌≤◌, length, ap, arith}
use Rattle.std.proofs.lemmas.Grind.{common_steps}
use Rattle.sctp_model.specs.wire.Typed.{typed_in}
use Rattle.sctp_print.proofs.CommaLemmas.{few_items}
use Rattle.sctp_print.proofs.words.count_items.Goals as goal

pub overflow_add-count : goal.overflow_add-count
overflow_add-count c =
    let few : length (typed_in c.args.parameters.now) ≤ length c.args.parameters.now = few_items c.args.parameters.now in
    let more = ap length c.in-Some.ensures.steps in
    grind (arith, common_steps)
