use Rattle.std.proofs.Common.{◌≡◌, drop}
use Rattle.std.specs.VecDeque.{deque_capacity}
use Rattle.sctp_congestion.proofs.last_sendings.drop_first.Given as goal

abbrev pub invariant-loop : goal.invariant-loop
invariant-loop l = record {
  items : l.entries.items ≡ drop l.counter l.initial.entries.items;
  capacity : deque_capacity l.entries ≡ deque_capacity l.initial.entries;
}
