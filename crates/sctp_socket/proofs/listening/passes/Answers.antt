use Rattle.std.proofs.Common.{arith}
use Rattle.std.proofs.lemmas.Grind.{common_steps}
use Rattle.sctp_socket.proofs.ListeningLemmas.{passes_init, passes_other}
use Rattle.sctp_socket.proofs.listening.passes.Goals as goal

pub returns-then-starts_with_init : goal.returns-then-starts_with_init
returns-then-starts_with_init c = passes_init c.args.packet.now.tag c.args.packet.now.chunks (grind (arith, common_steps))

pub returns : goal.returns
returns c = passes_other c.args.packet.now.tag c.args.packet.now.chunks (grind (arith, common_steps))
