use Rattle.std.proofs.Common.{◌≡◌, ◌++◌}
use Rattle.sctp_print.specs.ChunkLines.{each_behind_comma, kind_skip_word}
use Rattle.sctp_print.proofs.words.kind_skips_word.Given as goal

-- with what is still to come it is the whole
abbrev pub invariant-loop-skip : goal.invariant-loop-skip
invariant-loop-skip l = l.word.items ++ each_behind_comma kind_skip_word l.skip-iterator ≡ each_behind_comma kind_skip_word l.initial.skip-iterator
