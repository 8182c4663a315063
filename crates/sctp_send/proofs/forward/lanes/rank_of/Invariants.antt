use Rattle.std.proofs.Common.{◌≤◌, ◌-◌, map, length}
use Rattle.sctp_send.specs.inner.Lanes.{passed_meaning, before}
use Rattle.sctp_send.proofs.forward.lanes.rank_of.Given as goal

abbrev pub invariant-loop-low : goal.invariant-loop-low
invariant-loop-low l = record {
  low : l.low ≤ before l.key (map passed_meaning l.lanes);
  high : before l.key (map passed_meaning l.lanes) ≤ l.high;
  within : l.high ≤ length l.lanes;
}

abbrev pub decreases-loop-low : goal.decreases-loop-low
decreases-loop-low l = l.high - l.low
