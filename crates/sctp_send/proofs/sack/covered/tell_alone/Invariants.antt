use Rattle.std.proofs.Common.{◌≡◌, ◌<◌, length, take, get_or}
use Rattle.sctp_send.specs.CoveredRuns.{AreInOrder, HasPassed}
use Rattle.sctp_send.specs.inner.Changes.{told_where, in_alone}
use Rattle.sctp_send.specs.PartsKept.{IsSameRoom}
use Rattle.sctp_send.specs.declared.kept.entry.CoveredRun.{CoveredRun}
use Rattle.sctp_send.proofs.sack.covered.tell_alone.Given as goal

-- told over the runs so far, and what ends before the next one is passed
abbrev pub invariant-loop-run : goal.invariant-loop-run
invariant-loop-run l = record {
  items : AreInOrder 0 l.runs → AreInOrder 0 l.others → l.outstanding.items ≡ told_where l.covered (in_alone (take l.run-index l.runs) l.others) 1 l.initial.outstanding.items;
  passed : AreInOrder 0 l.runs → (d : CoveredRun) → l.run-index < length l.runs → HasPassed l.others l.first (get_or l.runs l.run-index d).from;
  count : length l.outstanding.items ≡ length l.initial.outstanding.items;
  room : IsSameRoom l.initial.outstanding l.outstanding;
}
