use Rattle.std.proofs.Common.{◌≡◌}
use Rattle.sctp_model.specs.wire.Unknown.{first_of, parameters_acted_on}
use Rattle.sctp_opening.proofs.parameters.value_of.Given as goal

-- the first of those to come is the first of all
abbrev pub invariant-loop-parameter : goal.invariant-loop-parameter
invariant-loop-parameter l = first_of l.kind (parameters_acted_on l.parameter-iterator) ≡ first_of l.kind (parameters_acted_on l.initial.parameter-iterator)
