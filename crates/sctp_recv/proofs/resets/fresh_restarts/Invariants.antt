use Rattle.std.proofs.Common.{◌≡◌, replicate}
use Rattle.sctp_recv.specs.Resets.{UNRESET}
use Rattle.sctp_recv.proofs.resets.fresh_restarts.Given as goal

abbrev pub invariant-loop : goal.invariant-loop
invariant-loop l = l.streams.items ≡ replicate l.counter UNRESET
