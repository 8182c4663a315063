use Rattle.std.proofs.Common.{◌≡◌}
use Rattle.sctp_model.specs.wire.Unknown.{parameters_reported}
use Rattle.sctp_opening.specs.inner.Fitting.{IsList, all_within}
use Rattle.sctp_opening.proofs.parameters.put_unrecognized.Given as goal

-- with what is still to come it is the whole, and it stays a list
abbrev pub invariant-loop-parameter : goal.invariant-loop-parameter
invariant-loop-parameter l = record {
  bytes : all_within l.most l.list.items (parameters_reported l.parameter-iterator) ≡ all_within l.most l.initial.list.items (parameters_reported l.initial.parameter-iterator);
  list : IsList l.initial.list.items → IsList l.list.items;
}
