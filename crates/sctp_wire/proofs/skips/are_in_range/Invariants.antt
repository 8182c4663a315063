use Rattle.std.specs.List.{AllByRecursion}
use Rattle.sctp_wire.specs.Skips.{IsSkip}
use Rattle.sctp_wire.proofs.skips.are_in_range.Given as goal

-- those before what is left are within their bits
abbrev pub invariant-loop-skip : goal.invariant-loop-skip
invariant-loop-skip l = record {
  rest : AllByRecursion (IsSkip l.form) l.fn.skips.skips → AllByRecursion (IsSkip l.form) l.skip-iterator;
  all : AllByRecursion (IsSkip l.form) l.skip-iterator → AllByRecursion (IsSkip l.form) l.fn.skips.skips;
}
