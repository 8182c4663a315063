use Rattle.std.proofs.Common.{◌≡◌}
use Rattle.sctp_model.specs.end.Strays.{holds_abort}
use Rattle.sctp_opening.proofs.outside.holds_abort.Given as goal

-- an ABORT is among those to come exactly where one is among all
abbrev pub invariant-loop-chunk : goal.invariant-loop-chunk
invariant-loop-chunk l = holds_abort l.chunk-iterator ≡ holds_abort l.initial.chunk-iterator
