use Rattle.std.proofs.Common.{◌≡◌, ◌++◌, take, map}
use Rattle.sctp_text.specs.SpacedWords.{each_behind_space}
use Rattle.sctp_text.specs.WrittenWords.{text_of}
use Rattle.sctp_text.proofs.line_out.append_words.Given as goal

abbrev pub invariant-loop-word : goal.invariant-loop-word
invariant-loop-word l = l.out.items ≡ l.fn.out.items ++ each_behind_space (map text_of (take l.word-index l.words))
