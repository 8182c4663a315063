use Rattle.std.proofs.Common.{◌≡◌}
use Rattle.sctp_send.proofs.sack.RunLemmas.{first_behind}
use Rattle.sctp_send.proofs.sack.entries.move_on.Given as goal

abbrev pub invariant-loop-at : goal.invariant-loop-at
invariant-loop-at l = l.runs.items ≡ first_behind l.passed l.at l.initial.runs.items
