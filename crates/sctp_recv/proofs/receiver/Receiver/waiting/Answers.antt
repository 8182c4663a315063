use Rattle.std.proofs.Common.{arith}
use Rattle.std.proofs.lemmas.Grind.{common_steps}
use Rattle.sctp_recv.specs.StandsFor.{StandsFor}
use Rattle.sctp_recv.proofs.receiver.Receiver.waiting.Goals as goal

pub returns-in_err-get : goal.returns-in_err-get
unfolding StandsFor
returns-in_err-get g c = grind (arith, common_steps)
