use Rattle.std.proofs.Common.{arith}
use Rattle.std.proofs.lemmas.Grind.{elements}
use Rattle.sctp_pair.proofs.taken.grow.Goals as goal

pub loop-next-preserved : goal.loop-next-preserved
loop-next-preserved c = grind (arith, elements)
