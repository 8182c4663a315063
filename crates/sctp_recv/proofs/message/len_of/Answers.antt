use Rattle.std.proofs.Common.{arith}
use Rattle.sctp_recv.proofs.PartLemmas.{length_more}
use Rattle.sctp_recv.proofs.message.len_of.Goals as goal

pub loop-part-preserved : goal.loop-part-preserved
loop-part-preserved c = let more = length_more c.args.parts.now c.loop-part.part-index c.part-item.result (omega arith) c.part-item.is in omega (arith, more)
