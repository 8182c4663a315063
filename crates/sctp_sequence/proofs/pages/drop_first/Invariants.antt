use Rattle.std.proofs.Common.{◌≡◌, drop}
use Rattle.std.specs.VecDeque.{deque_capacity}
use Rattle.sctp_sequence.proofs.pages.drop_first.Given as goal

abbrev pub invariant-loop : goal.invariant-loop
invariant-loop l = record {
  items : l.numbers.items ≡ drop l.counter l.initial.numbers.items;
  capacity : deque_capacity l.numbers ≡ deque_capacity l.initial.numbers;
}
