use Rattle.std.proofs.Common.{◌≡◌, ℕ, drop}
use Rattle.std.specs.List.{list_any, AllByRecursion}
use Rattle.sctp_send.specs.inner.Resetting.{is_still_in, is_low}
use Rattle.sctp_send.proofs.resetting.still.any_still.Given as goal

abbrev pub invariant-loop-at : goal.invariant-loop-at
invariant-loop-at l = (size : ℕ) → AllByRecursion is_low l.streams → list_any (is_still_in size l.stock) l.streams ≡ list_any (is_still_in size l.stock) (drop l.at l.streams)
