use Rattle.std.proofs.Common.{◌≡◌, ◌++◌}
use Rattle.sctp_print.specs.ChunkLines.{each_behind_comma, type_word}
use Rattle.sctp_print.proofs.words.kinds_word.Given as goal

-- with what is still to come it is the whole
abbrev pub invariant-loop-cause : goal.invariant-loop-cause
invariant-loop-cause l = l.word.items ++ each_behind_comma type_word l.cause-iterator ≡ each_behind_comma type_word l.initial.cause-iterator
