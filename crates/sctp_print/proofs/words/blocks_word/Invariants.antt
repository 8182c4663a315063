use Rattle.std.proofs.Common.{◌≡◌, ◌++◌}
use Rattle.sctp_print.specs.ChunkLines.{each_behind_comma, block_word}
use Rattle.sctp_print.proofs.words.blocks_word.Given as goal

-- with what is still to come it is the whole
abbrev pub invariant-loop-block : goal.invariant-loop-block
invariant-loop-block l = l.word.items ++ each_behind_comma block_word l.block-iterator ≡ each_behind_comma block_word l.initial.block-iterator
