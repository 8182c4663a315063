use Rattle.std.proofs.Common.{◌≡◌, ◌≤◌, length, min, max}
use Rattle.sctp_send.specs.CoveredRuns.{AreInOrder, HasPassed}
use Rattle.sctp_send.specs.inner.Changes.{told_where, in_gaps}
use Rattle.sctp_send.specs.PartsKept.{IsSameRoom}
use Rattle.sctp_send.proofs.sack.covered.tell_gaps.Given as goal

-- told so far, past the runs so far
abbrev pub invariant-loop-next : goal.invariant-loop-next
invariant-loop-next l = record {
  low : l.from ≤ l.at;
  near : l.at ≤ max l.from l.to;
  passed : HasPassed l.runs l.first l.from → HasPassed l.runs l.next l.at;
  items : AreInOrder 0 l.runs → HasPassed l.runs l.first l.from → l.outstanding.items ≡ told_where l.covered (in_gaps l.runs l.from (min l.at l.to)) 1 l.initial.outstanding.items;
  count : length l.outstanding.items ≡ length l.initial.outstanding.items;
  room : IsSameRoom l.initial.outstanding l.outstanding;
}
