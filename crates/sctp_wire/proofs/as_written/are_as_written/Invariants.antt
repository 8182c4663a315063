use Rattle.std.specs.Prelude.{◌≡◌, ◌↔◌, true, length}
use Rattle.sctp_model.specs.numbers.Numbers.{AreBytes}
use Rattle.sctp_model.specs.wire.Typed.{are_typed, AreAsWritten}
use Rattle.sctp_wire.proofs.as_written.are_as_written.Given as goal

-- what is left is a list, which is as it is written where the whole list is
abbrev pub invariant-loop-rest : goal.invariant-loop-rest
invariant-loop-rest l = record {
  ranged : AreBytes l.rest;
  listed : are_typed l.rest ≡ true;
  same : AreAsWritten l.fn.bytes ↔ AreAsWritten l.rest;
}

abbrev pub decreases-loop-rest : goal.decreases-loop-rest
decreases-loop-rest l = length l.rest
