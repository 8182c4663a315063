use Rattle.std.proofs.Common.{◌≡◌}
use Rattle.sctp_model.specs.receiver.ForwardTaken.{names_other_stream}
use Rattle.sctp_recv.proofs.entries.names_other_stream.Given as goal

-- those before what is left name none
abbrev pub invariant-loop-skip : goal.invariant-loop-skip
invariant-loop-skip l = names_other_stream l.streams l.skip-iterator ≡ names_other_stream l.streams l.fn.skips.skips
