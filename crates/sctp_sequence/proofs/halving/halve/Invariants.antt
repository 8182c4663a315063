use Rattle.std.proofs.Common.{◌≡◌, ◌+◌, ◌++◌}
use Rattle.std.specs.VecDeque.{deque_len, deque_capacity}
use Rattle.sctp_sequence.proofs.halving.halve.Given as goal

abbrev pub invariant-loop : goal.invariant-loop
invariant-loop g l = record {
  items : l.block.items ++ l.later.items ≡ l.initial.block.items;
  len : deque_len l.block + l.counter ≡ 512;
  later_len : deque_len l.later ≡ l.counter;
  capacity : deque_capacity l.block ≡ deque_capacity l.initial.block;
  later_capacity : deque_capacity l.later ≡ deque_capacity l.initial.later;
}
