use Rattle.sctp_model.proofs.TypedLemmas.{typed_of-reads, reads_typed_in}
use Rattle.sctp_model.proofs.TypedWriting.{reads_writes_typed, as_written_writes, writes_as_written}
use Rattle.sctp_wire.proofs.laws.typed_one_reading.Goals as goal

pub returns : goal.returns
returns c = λ bytes. record {
  one_list = typed_of-reads bytes;
  is_read = reads_typed_in bytes;
  written_reads = reads_writes_typed bytes;
  as_written = as_written_writes bytes;
  only_written = writes_as_written bytes;
}
