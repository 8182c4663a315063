use Rattle.std.proofs.Common.{ℕ, ◌<◌, ◌≤◌, get_or}
use Rattle.sctp_sequence.proofs.pages.least_in.Given as goal

abbrev pub invariant-loop-at : goal.invariant-loop-at
invariant-loop-at l = (k d : ℕ) → l.fn.from ≤ k → k < l.at → l.least ≤ get_or l.numbers k d
