use Rattle.std.proofs.Common.{◌≡◌, ℕ, ◌+◌, ◌<◌, ◌≤◌, get_or}
use Rattle.sctp_sequence.proofs.blocks.raise.Given as goal

abbrev pub invariant-loop-at : goal.invariant-loop-at
invariant-loop-at l = record {
  before : (k d : ℕ) → k < l.from → get_or l.starts k d ≡ get_or l.initial.starts k d;
  done : (k d : ℕ) → l.from ≤ k → k < l.at → get_or l.starts k d ≡ get_or l.initial.starts k d + 1;
  left : (k d : ℕ) → l.at ≤ k → get_or l.starts k d ≡ get_or l.initial.starts k d;
}
