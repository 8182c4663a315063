use Rattle.std.proofs.Common.{◌≡◌, drop}
use Rattle.sctp_recv.proofs.seen.pass.Given as goal

abbrev pub invariant-loop : goal.invariant-loop
invariant-loop l = record { left : l.runs.items ≡ drop l.counter l.initial.runs.items }
