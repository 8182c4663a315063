use Rattle.std.proofs.Common.{None, arith}
use Rattle.sctp_packet.specs.declared.fault.PacketFault.TheVariants.{Short}
use Rattle.sctp_pair.proofs.ReadLemmas.{told_leaves}
use Rattle.sctp_pair.proofs.hearing.pass_time.Goals as goal

pub returns : goal.returns
returns c = λ v stands. told_leaves v c.args.clock c.args.draw c.handle_packet-dropped.result _ (c.handle_packet-dropped.ensures.step v None stands (Short, omega arith))
