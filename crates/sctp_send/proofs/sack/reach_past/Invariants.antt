use Rattle.std.proofs.Common.{◌≡◌}
use Rattle.sctp_model.specs.sender.SackTaken.{some_ends_past}
use Rattle.sctp_send.proofs.sack.reach_past.Given as goal

abbrev pub invariant-loop-block : goal.invariant-loop-block
invariant-loop-block l = some_ends_past l.last 0 l.blocks ≡ some_ends_past l.last 0 l.block-iterator
