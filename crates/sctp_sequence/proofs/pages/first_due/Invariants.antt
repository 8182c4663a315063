use Rattle.std.proofs.Common.{ℕ, ◌*◌, ◌<◌, ◌≤◌, length, get_or}
use Rattle.sctp_sequence.proofs.pages.first_due.Given as goal

abbrev pub invariant-loop-page : goal.invariant-loop-page
invariant-loop-page l = (k d : ℕ) → l.fn.from ≤ k → k < l.page * 64 → k < length l.numbers.items → l.bound < get_or l.numbers.items k d
