use Rattle.std.proofs.Common.{◌≡◌, ◌++◌}
use Rattle.std.specs.Prelude.{decimal}
use Rattle.sctp_print.specs.ChunkLines.{each_behind_comma}
use Rattle.sctp_print.proofs.words.numbers_word.Given as goal

-- with what is still to come it is the whole
abbrev pub invariant-loop-number : goal.invariant-loop-number
invariant-loop-number l = l.word.items ++ each_behind_comma decimal l.number-iterator ≡ each_behind_comma decimal l.initial.number-iterator
