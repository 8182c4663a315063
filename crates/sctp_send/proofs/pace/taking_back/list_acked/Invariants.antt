use Rattle.std.proofs.Common.{◌≡◌, ℕ, ◌-◌, ◌<◌, ◌≤◌, ◌++◌, map}
use Rattle.sctp_send.specs.OutstandingFields.{item_meaning}
use Rattle.sctp_send.specs.inner.Testing.{index_of, offsets_that}
use Rattle.sctp_send.specs.inner.Weighing.{is_item_acked, passes_here}
use Rattle.sctp_send.proofs.pace.taking_back.list_acked.Given as goal

-- the offsets before this one are listed
abbrev pub invariant-loop-at : goal.invariant-loop-at
invariant-loop-at l = record {
  upto : l.fn.from < l.at → l.at ≤ l.at-end;
  listed : (size : ℕ) → l.back.items ≡ l.initial.back.items ++ map (index_of l.cum) (offsets_that (passes_here is_item_acked (map (item_meaning size) l.outstanding.items)) l.fn.from (l.at - l.fn.from));
}
