use Rattle.std.proofs.Common.{◌≡◌, ℕ, false, true, length}
use Rattle.sctp_model.specs.messages.Acknowledgement.{in_blocks}
use Rattle.sctp_model.specs.sender.SackTaken.{some_is_bad, some_ends_past}
use Rattle.sctp_send.specs.inner.Changes.{all_told, told_where}
use Rattle.sctp_send.specs.PartsKept.{IsSameRoom}
use Rattle.sctp_send.proofs.sack.entries.cover.Given as goal

-- the blocks still to come are in order and inside, and once they are told, all is
abbrev pub invariant-loop-block : goal.invariant-loop-block
invariant-loop-block l = record {
  last : ℕ;
  ordered : some_is_bad last l.block-iterator ≡ false;
  inside : some_ends_past (length l.fn.outstanding.items) 0 l.block-iterator ≡ false;
  count : length l.outstanding.items ≡ length l.fn.outstanding.items;
  room : IsSameRoom l.fn.outstanding l.outstanding;
  told : told_where true (in_blocks 0 l.block-iterator) 1 l.outstanding.items ≡ all_told (in_blocks 0 l.blocks) 1 l.fn.outstanding.items;
}
