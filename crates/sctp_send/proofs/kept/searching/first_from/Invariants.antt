use Rattle.std.proofs.Common.{◌≡◌, ℕ, None, map, take}
use Rattle.sctp_send.specs.OutstandingFields.{item_meaning}
use Rattle.sctp_send.specs.inner.Wishing.{first_offset, is_item_wanted}
use Rattle.sctp_send.proofs.kept.searching.first_from.Given as goal

-- none is found so far
abbrev pub invariant-loop-at : goal.invariant-loop-at
invariant-loop-at l = (size : ℕ) → first_offset (is_item_wanted l.again) (take l.from (map (item_meaning size) l.entries.items)) ≡ None → first_offset (is_item_wanted l.again) (take l.at (map (item_meaning size) l.entries.items)) ≡ None
