use Rattle.std.proofs.Common.{◌≡◌, ℕ, take, filter}
use Rattle.std.specs.List.{AllByRecursion}
use Rattle.sctp_model.specs.numbers.Limits.{RESETS_AT_ONCE}
use Rattle.sctp_send.specs.inner.Resetting.{is_still_in, is_low}
use Rattle.sctp_send.proofs.resetting.still.still_of.Given as goal

abbrev pub invariant-loop-at : goal.invariant-loop-at
invariant-loop-at l = (size : ℕ) → AllByRecursion is_low l.streams → l.found.items ≡ take RESETS_AT_ONCE (filter (is_still_in size l.stock) (take l.at l.streams))
