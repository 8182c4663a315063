-- A word that is a command's name, byte by byte.
use Rattle.std.proofs.Common.{arith}
use Rattle.std.proofs.lemmas.Grind.{common_steps, elements}
use Rattle.sctp_end.proofs.command.Command.named.Goals as goal

pub returns-in-connect : goal.returns-in-connect
returns-in-connect c = grind (arith, elements)

pub returns-in-draw : goal.returns-in-draw
returns-in-draw c = grind (arith, common_steps)

pub returns-in-at : goal.returns-in-at
returns-in-at c = grind (arith, common_steps)

pub returns-in-packet : goal.returns-in-packet
returns-in-packet c = grind (arith, elements)

pub returns-in-build : goal.returns-in-build
returns-in-build c = grind (arith, common_steps)

pub returns-in-send : goal.returns-in-send
returns-in-send c = grind (arith, common_steps)

pub returns-in-abandon : goal.returns-in-abandon
returns-in-abandon c = grind (arith, elements)

pub returns-in-acknowledged : goal.returns-in-acknowledged
returns-in-acknowledged c = grind (arith, elements)

pub returns-in-abandoned : goal.returns-in-abandoned
returns-in-abandoned c = grind (arith, elements)

pub returns-in-take : goal.returns-in-take
returns-in-take c = grind (arith, common_steps)

pub returns-in-reset : goal.returns-in-reset
returns-in-reset c = grind (arith, common_steps)

pub returns-in-resets : goal.returns-in-resets
returns-in-resets c = grind (arith, elements)

pub returns-in-shutdown : goal.returns-in-shutdown
returns-in-shutdown c = grind (arith, elements)

pub returns-in-abort : goal.returns-in-abort
returns-in-abort c = grind (arith, common_steps)

pub returns-in-next : goal.returns-in-next
returns-in-next c = grind (arith, common_steps)

pub returns-in-state : goal.returns-in-state
returns-in-state c = grind (arith, common_steps)

pub returns-in-held : goal.returns-in-held
returns-in-held c = grind (arith, common_steps)

pub returns-in-reassembly : goal.returns-in-reassembly
returns-in-reassembly c = grind (arith, elements)

pub returns-in-path : goal.returns-in-path
returns-in-path c = grind (arith, common_steps)

pub returns-in-counts : goal.returns-in-counts
returns-in-counts c = grind (arith, elements)

pub returns-in-status : goal.returns-in-status
returns-in-status c = grind (arith, elements)
