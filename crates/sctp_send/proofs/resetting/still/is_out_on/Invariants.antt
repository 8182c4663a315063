use Rattle.std.proofs.Common.{◌≡◌, ℕ, map, drop}
use Rattle.std.specs.List.{list_any}
use Rattle.sctp_send.specs.OutstandingFields.{item_meaning}
use Rattle.sctp_send.specs.inner.Resetting.{is_item_on}
use Rattle.sctp_send.proofs.resetting.still.is_out_on.Given as goal

abbrev pub invariant-loop-at : goal.invariant-loop-at
invariant-loop-at l = (size : ℕ) → list_any (is_item_on l.stream) (map (item_meaning size) l.outstanding.items) ≡ list_any (is_item_on l.stream) (drop l.at (map (item_meaning size) l.outstanding.items))
