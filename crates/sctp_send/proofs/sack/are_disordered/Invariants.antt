use Rattle.std.proofs.Common.{◌≡◌}
use Rattle.sctp_model.specs.sender.SackTaken.{some_is_bad}
use Rattle.sctp_send.proofs.sack.are_disordered.Given as goal

abbrev pub invariant-loop-block : goal.invariant-loop-block
invariant-loop-block l = some_is_bad 0 l.blocks ≡ some_is_bad l.end l.block-iterator
