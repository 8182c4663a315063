use Rattle.std.proofs.Common.{◌≡◌, ◌<◌}
use Rattle.sctp_model.specs.messages.Acknowledgement.{in_blocks}
use Rattle.sctp_send.proofs.pace.weighing.covers.Given as goal

-- none of the blocks before these holds it
abbrev pub invariant-loop-block : goal.invariant-loop-block
invariant-loop-block l = record {
  past : l.passed < l.offset;
  rest : in_blocks l.passed l.blocks l.offset ≡ in_blocks l.passed l.block-iterator l.offset;
}
