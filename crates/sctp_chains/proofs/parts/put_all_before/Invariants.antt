use Rattle.std.proofs.Common.{◌≡◌, ◌≤◌, ◌+◌, ◌++◌}
use Rattle.std.specs.VecDeque.{deque_len, deque_capacity}
use Rattle.sctp_chains.proofs.parts.put_all_before.Given as goal

-- what is left, and what was moved, are all that there are; and there is room
abbrev pub invariant-loop-part : goal.invariant-loop-part
invariant-loop-part l = record {
  items : l.before.items ++ l.list.items ≡ l.fn.before.items ++ l.fn.list.items;
  room : deque_len l.list + deque_len l.before ≤ deque_capacity l.list;
}

abbrev pub decreases-loop-part : goal.decreases-loop-part
decreases-loop-part l = deque_len l.before
