use Rattle.std.specs.Prelude.{◌≡◌, ◌≤◌, ◌++◌, length, vec_capacity}
use Rattle.sctp_recv.proofs.postponed.list.Given as goal

-- what is left goes behind what is kept
abbrev pub invariant-loop-stream : goal.invariant-loop-stream
invariant-loop-stream l = record {
  items : length l.named ≤ vec_capacity l.fn.known → l.known.items ++ l.stream-iterator ≡ l.named;
  room : vec_capacity l.fn.known ≤ vec_capacity l.known;
}
