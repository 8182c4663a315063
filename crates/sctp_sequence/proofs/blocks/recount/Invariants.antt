use Rattle.std.proofs.Common.{◌≡◌, length, take}
use Rattle.std.specs.Vec.{vec_len, vec_capacity}
use Rattle.sctp_sequence.specs.Blocks.{joined, AreStarts}
use Rattle.sctp_sequence.proofs.blocks.recount.Given as goal

abbrev pub invariant-loop-block : goal.invariant-loop-block
invariant-loop-block g l = record {
  count : l.count ≡ length (joined (take l.block l.blocks.items));
  starts : AreStarts l.block l.starts.items l.blocks.items;
  each : vec_len l.starts ≡ vec_len l.blocks;
  capacity : vec_capacity l.starts ≡ vec_capacity l.initial.starts;
}
