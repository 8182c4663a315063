use Rattle.std.specs.Prelude.{◌≡◌, length}
use Rattle.sctp_model.specs.wire.Typed.{are_typed}
use Rattle.sctp_wire.proofs.typed.is_typed_list.Given as goal

-- what is left is a list where the bytes are
abbrev pub invariant-loop-rest : goal.invariant-loop-rest
invariant-loop-rest l = are_typed l.fn.bytes ≡ are_typed l.rest

abbrev pub decreases-loop-rest : goal.decreases-loop-rest
decreases-loop-rest l = length l.rest
