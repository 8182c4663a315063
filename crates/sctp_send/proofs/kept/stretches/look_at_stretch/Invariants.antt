use Rattle.std.proofs.Common.{◌≤◌, ◌-◌, ◌*◌}
use Rattle.sctp_send.specs.inner.Stretching.{AreAlike}
use Rattle.sctp_send.proofs.kept.stretches.look_at_stretch.Given as goal

-- those so far stand alike
abbrev pub invariant-loop-offset : goal.invariant-loop-offset
invariant-loop-offset l = record {
  low : l.at ≤ l.offset;
  alike : AreAlike l.header l.size l.covered l.bytes l.chunks l.plain l.at (l.offset - l.at) l.entries.items;
  few : l.bytes ≤ (l.offset - l.at) * 65535;
  light : l.chunks ≤ (l.offset - l.at) * 131072;
  less : l.plain ≤ l.offset - l.at;
}
