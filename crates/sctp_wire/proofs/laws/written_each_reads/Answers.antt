use Rattle.sctp_wire.proofs.WriteLemmas.{reads_each_written}
use Rattle.sctp_wire.proofs.laws.written_each_reads.Goals as goal

pub returns : goal.returns
returns c = reads_each_written
