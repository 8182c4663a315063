use Rattle.std.proofs.Common.{◌≡◌}
use Rattle.sctp_endpoint.specs.inner.SacksHeard.{after_chunks}
use Rattle.sctp_endpoint.proofs.acting.count_sacks.Given as goal

-- with the SACKs to come all are counted
abbrev pub invariant-loop-chunk : goal.invariant-loop-chunk
invariant-loop-chunk l = after_chunks l.chunk-iterator l.sacks ≡ after_chunks l.initial.chunk-iterator l.fn.sacks
