use Rattle.std.proofs.Common.{◌≡◌, ℕ, ◌<◌, ◌≤◌, Bool, length, map, max, true}
use Rattle.sctp_send.specs.OutstandingFields.{item_meaning}
use Rattle.sctp_send.specs.inner.Weighing.{IsTally}
use Rattle.sctp_send.proofs.pace.tally.Tally.take.Given as goal

-- the entries up to here are in the sums
abbrev pub invariant-loop-at : goal.invariant-loop-at
invariant-loop-at l =
    let xs = map (item_meaning l.outstanding.size) l.outstanding.items in
    record {
      here : l.tally.at ≡ l.at;
      size : l.size ≡ l.outstanding.size;
      header : l.header ≡ l.outstanding.header;
      within : l.at-end ≤ length l.outstanding.items;
      below : l.at-end ≤ l.to;
      upto : l.at ≤ max l.fn.self.at l.at-end;
      tally : (on : ℕ → Bool) → IsTally l.outstanding.header xs on l.fn.self → ((j : ℕ) → l.fn.self.at < j → j ≤ l.at → on j ≡ true) → IsTally l.outstanding.header xs on l.tally;
    }
