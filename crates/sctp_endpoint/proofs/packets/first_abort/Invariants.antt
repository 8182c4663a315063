use Rattle.std.proofs.Common.{◌≡◌}
use Rattle.sctp_endpoint.specs.Packets.{abort_among}
use Rattle.sctp_endpoint.proofs.packets.first_abort.Given as goal

-- the first ABORT of those to come is the first of all
abbrev pub invariant-loop-chunk : goal.invariant-loop-chunk
invariant-loop-chunk l = abort_among l.chunk-iterator ≡ abort_among l.initial.chunk-iterator
