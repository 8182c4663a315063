use Rattle.std.proofs.Common.{◌≡◌}
use Rattle.std.specs.VecDeque.{deque_capacity}
use Rattle.sctp_send.specs.inner.Changes.{told_where, is_between}
use Rattle.sctp_send.specs.inner.Counting.{IsCounted}
use Rattle.sctp_send.proofs.sack.acknowledging.tell_entries.Given as goal

-- the run that is told so far
abbrev pub invariant-loop-at : goal.invariant-loop-at
invariant-loop-at l = record {
  told : l.entries.items ≡ told_where l.covered (is_between l.from l.at) 1 l.initial.entries.items;
  counted : IsCounted l.size l.entries.items l.counts;
  header : l.counts.header ≡ l.initial.counts.header;
  capacity : deque_capacity l.entries ≡ deque_capacity l.initial.entries;
}
