use Rattle.std.proofs.Common.{arith}
use Rattle.std.proofs.lemmas.Grind.{common_steps}
use Rattle.sctp_sequence.proofs.coming.insert_halving_first.Goals as goal

pub recount-requires-clause-small : goal.recount-requires-clause-small
recount-requires-clause-small g c = grind (arith, common_steps)

pub returns-in-Some-clause-items : goal.returns-in-Some-clause-items
returns-in-Some-clause-items g c = grind (arith, common_steps)
