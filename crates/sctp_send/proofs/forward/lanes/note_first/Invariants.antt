use Rattle.std.proofs.Common.{◌≡◌, ℕ, ◌≤◌, map, take, length}
use Rattle.sctp_model.specs.sender.Forwarding.{skips_below}
use Rattle.sctp_send.specs.OutstandingFields.{item_meaning, entries_of}
use Rattle.sctp_send.specs.inner.Lanes.{passed_meaning}
use Rattle.sctp_send.proofs.forward.lanes.note_first.Given as goal

abbrev pub invariant-loop-at : goal.invariant-loop-at
invariant-loop-at g l = record {
  lanes : (size : ℕ) → map passed_meaning l.lanes.items ≡ skips_below g.F.Framing.format (entries_of (map (item_meaning size) (take l.at l.outstanding.items))) l.streams;
  few : length l.lanes.items ≤ l.most;
}
