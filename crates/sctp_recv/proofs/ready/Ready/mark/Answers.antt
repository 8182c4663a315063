use Rattle.std.proofs.Common.{arith}
use Rattle.std.proofs.lemmas.Grind.{moves}
use Rattle.sctp_recv.proofs.ready.Ready.mark.Goals as goal

pub invariant_of-self : goal.invariant_of-self
invariant_of-self c = grind (arith, moves)
