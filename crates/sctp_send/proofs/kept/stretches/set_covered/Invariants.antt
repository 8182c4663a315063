use Rattle.std.proofs.Common.{◌≡◌, ◌≤◌, ◌-◌}
use Rattle.sctp_send.specs.inner.Stretching.{covered_run}
use Rattle.sctp_send.proofs.kept.stretches.set_covered.Given as goal

-- noted so far
abbrev pub invariant-loop-offset : goal.invariant-loop-offset
invariant-loop-offset l = record {
  low : l.at ≤ l.offset;
  noted : l.entries ≡ covered_run l.covered l.at (l.offset - l.at) l.initial.entries;
}
