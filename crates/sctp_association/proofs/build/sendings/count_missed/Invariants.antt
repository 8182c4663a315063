use Rattle.std.proofs.Common.{◌≡◌, ◌≤◌, take, count_by}
use Rattle.sctp_congestion.specs.PaceStands.{missed_at}
use Rattle.sctp_association.proofs.build.sendings.count_missed.Given as goal

-- so many of those before are missed
abbrev pub invariant-loop-index : goal.invariant-loop-index
invariant-loop-index l = (l.count ≡ count_by (missed_at l.pace) (take l.index-index l.indexes)) × (l.count ≤ l.index-index)
