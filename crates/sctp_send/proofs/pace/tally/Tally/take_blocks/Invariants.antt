use Rattle.std.proofs.Common.{◌≡◌, ℕ, ◌-◌, ◌<◌, ◌≤◌, map, true, false}
use Rattle.sctp_model.specs.messages.Acknowledgement.{in_blocks}
use Rattle.sctp_model.specs.sender.SackTaken.{some_is_bad, sack_covers}
use Rattle.sctp_send.specs.OutstandingFields.{item_meaning}
use Rattle.sctp_send.specs.inner.Weighing.{IsTally, LieCovered}
use Rattle.sctp_send.proofs.pace.tally.Tally.take_blocks.Given as goal

-- what the blocks before these acknowledge is in the sums, and beyond that only these acknowledge anything
abbrev pub invariant-loop-block : goal.invariant-loop-block
invariant-loop-block l =
    let xs = map (item_meaning l.outstanding.size) l.outstanding.items in
    record {
      from : l.passed ≤ l.tally.at;
      tally : LieCovered l.runs xs → some_is_bad 0 l.blocks ≡ false → IsTally l.outstanding.header xs (sack_covers l.passed l.blocks) l.fn.self → IsTally l.outstanding.header xs (sack_covers l.passed l.blocks) l.tally;
      here : some_is_bad 0 l.blocks ≡ false → sack_covers l.passed l.blocks l.tally.at ≡ true;
      order : some_is_bad 0 l.blocks ≡ false → some_is_bad (l.tally.at - l.passed) l.block-iterator ≡ false;
      rest : some_is_bad 0 l.blocks ≡ false → (j : ℕ) → l.tally.at < j → sack_covers l.passed l.blocks j ≡ in_blocks l.passed l.block-iterator j;
    }
