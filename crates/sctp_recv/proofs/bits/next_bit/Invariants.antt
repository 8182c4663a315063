use Rattle.std.proofs.Common.{◌≤◌, ◌/◌, ◌-◌, length}
use Rattle.sctp_recv.proofs.BitLemmas.{IsPassed}
use Rattle.sctp_recv.proofs.bits.next_bit.Given as goal

abbrev pub invariant-loop-number : goal.invariant-loop-number
invariant-loop-number l = record {
  above : l.from ≤ l.number;
  passed : IsPassed l.words.items l.from l.number;
}

abbrev pub decreases-loop-number : goal.decreases-loop-number
decreases-loop-number l = length l.words.items - l.number / 64
