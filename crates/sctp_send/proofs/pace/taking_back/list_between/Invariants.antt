use Rattle.std.proofs.Common.{◌≡◌, ℕ, ◌-◌, ◌<◌, ◌≤◌, ◌++◌, map, false}
use Rattle.sctp_model.specs.messages.Acknowledgement.{in_blocks}
use Rattle.sctp_model.specs.sender.SackTaken.{some_is_bad, sack_covers}
use Rattle.sctp_send.specs.OutstandingFields.{item_meaning}
use Rattle.sctp_send.specs.inner.Testing.{index_of, offsets_that}
use Rattle.sctp_send.specs.inner.Weighing.{is_uncovered}
use Rattle.sctp_send.proofs.pace.taking_back.list_between.Given as goal

-- what these and the blocks before them take back is listed, and beyond that only these acknowledge anything
abbrev pub invariant-loop-block : goal.invariant-loop-block
invariant-loop-block l =
    record {
      from : l.passed ≤ l.at;
      listed : (size : ℕ) → l.back.items ≡ l.initial.back.items ++ map (index_of l.cum) (offsets_that (is_uncovered (map (item_meaning size) l.outstanding.items) l.passed l.blocks) 0 l.at);
      order : some_is_bad (l.at - l.passed) l.block-iterator ≡ false;
      rest : (j : ℕ) → l.at < j → sack_covers l.passed l.blocks j ≡ in_blocks l.passed l.block-iterator j;
    }
