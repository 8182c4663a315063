use Rattle.std.proofs.Common.{◌≡◌, ℕ, suc, ◌+◌, ◌≤◌, length, get_or}
use Rattle.std.specs.VecDeque.{deque_capacity}
use Rattle.sctp_congestion.proofs.last_sendings.lengthen.Given as goal

abbrev pub invariant-loop-place : goal.invariant-loop-place
invariant-loop-place l = record {
  long : length l.entries.items ≡ l.place;
  each : (k : ℕ) → get_or l.entries.items k (suc l.base + k) ≡ get_or l.initial.entries.items k (suc l.base + k);
  capacity : deque_capacity l.entries ≡ deque_capacity l.initial.entries;
  more : length l.initial.entries.items ≤ length l.entries.items;
}
