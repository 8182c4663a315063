use Rattle.std.proofs.Common.{arith}
use Rattle.std.proofs.lemmas.Grind.{common_steps}
use Rattle.sctp_sequence.proofs.going.move_up.Goals as goal

pub recount-requires-clause-small : goal.recount-requires-clause-small
recount-requires-clause-small g c = grind (arith, common_steps)

pub returns-then-not-is_empty-clause-items : goal.returns-then-not-is_empty-clause-items
returns-then-not-is_empty-clause-items g c = grind (arith, common_steps)
