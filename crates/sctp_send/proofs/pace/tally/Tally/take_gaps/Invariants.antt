use Rattle.std.proofs.Common.{◌≡◌, ℕ, ◌<◌, ◌≤◌, Bool, max, map, true}
use Rattle.sctp_send.specs.OutstandingFields.{item_meaning}
use Rattle.sctp_send.specs.inner.Weighing.{IsTally, LieCovered}
use Rattle.sctp_send.proofs.pace.tally.Tally.take_gaps.Given as goal

-- the entries up to here are in the sums
abbrev pub invariant-loop-next : goal.invariant-loop-next
invariant-loop-next l =
    let xs = map (item_meaning l.outstanding.size) l.outstanding.items in
    record {
      from : l.fn.self.at ≤ l.tally.at;
      upto : l.tally.at ≤ max l.fn.self.at l.to;
      tally : (on : ℕ → Bool) → LieCovered l.runs xs → IsTally l.outstanding.header xs on l.fn.self → ((j : ℕ) → l.fn.self.at < j → j ≤ l.to → on j ≡ true) → IsTally l.outstanding.header xs on l.tally;
    }
