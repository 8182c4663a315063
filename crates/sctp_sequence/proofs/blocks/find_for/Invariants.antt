use Rattle.std.proofs.Common.{◌-◌, ◌<◌, ◌≤◌, length, take}
use Rattle.sctp_sequence.specs.Blocks.{joined}
use Rattle.sctp_sequence.proofs.blocks.find_for.Given as goal

abbrev pub invariant-loop-high : goal.invariant-loop-high
invariant-loop-high g l = record {
  some : l.low < l.high;
  within : l.high ≤ length l.blocks.items;
  from : length (joined (take l.low l.blocks.items)) ≤ l.at;
  below : l.high < length l.blocks.items → l.at < length (joined (take l.high l.blocks.items));
}

abbrev pub decreases-loop-high : goal.decreases-loop-high
decreases-loop-high g l = l.high - l.low
