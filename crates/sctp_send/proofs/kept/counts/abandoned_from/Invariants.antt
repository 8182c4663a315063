use Rattle.std.proofs.Common.{◌≡◌, ℕ, ◌+◌, map, drop}
use Rattle.sctp_send.specs.OutstandingFields.{item_meaning}
use Rattle.sctp_send.specs.inner.Walks.{abandoned_items}
use Rattle.sctp_send.proofs.kept.counts.abandoned_from.Given as goal

abbrev pub invariant-loop-at : goal.invariant-loop-at
invariant-loop-at l =
    (size : ℕ) → l.from + abandoned_items (drop l.from (map (item_meaning size) l.entries.items)) ≡ l.at + abandoned_items (drop l.at (map (item_meaning size) l.entries.items))
