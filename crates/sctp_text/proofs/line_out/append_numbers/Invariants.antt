use Rattle.std.proofs.Common.{◌≡◌, ◌++◌, take, map, decimal}
use Rattle.sctp_text.specs.SpacedWords.{each_behind_space}
use Rattle.sctp_text.proofs.line_out.append_numbers.Given as goal

abbrev pub invariant-loop-number : goal.invariant-loop-number
invariant-loop-number l = l.out.items ≡ l.fn.out.items ++ each_behind_space (map decimal (take l.number-index l.numbers))
