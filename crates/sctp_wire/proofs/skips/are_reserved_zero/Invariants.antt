use Rattle.std.specs.Prelude.{◌≡◌, length}
use Rattle.sctp_wire.specs.declared.skips.SkipForm.TheVariants.{Wide}
use Rattle.sctp_wire.specs.Skips.{are_reserved_zero}
use Rattle.sctp_wire.proofs.skips.are_reserved_zero.Given as goal

abbrev pub invariant-loop-rest : goal.invariant-loop-rest
invariant-loop-rest l = are_reserved_zero Wide l.fn.bytes ≡ are_reserved_zero Wide l.rest

abbrev pub decreases-loop-rest : goal.decreases-loop-rest
decreases-loop-rest l = length l.rest
