use Rattle.std.proofs.Common.{◌≡◌, map, replicate}
use Rattle.sctp_recv.specs.Fields.{stream_of}
use Rattle.sctp_recv.specs.ReceiverKept.{FRESH}
use Rattle.sctp_recv.proofs.FiledLemmas.{AreFresh}
use Rattle.sctp_recv.proofs.stream.fresh_streams.Given as goal

abbrev pub invariant-loop : goal.invariant-loop
invariant-loop g l = record { streams : map stream_of l.streams.items ≡ replicate l.counter FRESH; fresh : AreFresh l.streams.items }
