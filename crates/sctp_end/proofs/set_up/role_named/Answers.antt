use Rattle.std.proofs.Common.{arith}
use Rattle.std.proofs.lemmas.Grind.{elements}
use Rattle.sctp_end.proofs.set_up.role_named.Goals as goal

pub returns-in-caller : goal.returns-in-caller
returns-in-caller c = grind (arith, elements)

pub returns-in-listener : goal.returns-in-listener
returns-in-listener c = grind (arith, elements)
