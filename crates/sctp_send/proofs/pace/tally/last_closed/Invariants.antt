use Rattle.std.proofs.Common.{◌≡◌, ℕ, ◌+◌, ◌-◌, ◌<◌, ◌≤◌, map, false}
use Rattle.sctp_send.specs.OutstandingFields.{item_meaning}
use Rattle.sctp_send.specs.inner.Weighing.{is_item_closed, passes_here}
use Rattle.sctp_send.proofs.pace.tally.last_closed.Given as goal

-- none of those behind is acknowledged by a gap block
abbrev pub invariant-loop-back : goal.invariant-loop-back
invariant-loop-back l = (size j : ℕ) → l.end + l.fn.from < j + l.back → j ≤ l.fn.to → passes_here is_item_closed (map (item_meaning size) l.outstanding.items) (j - 1) ≡ false
