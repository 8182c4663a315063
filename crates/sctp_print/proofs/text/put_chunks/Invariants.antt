use Rattle.std.proofs.Common.{◌≡◌, ◌++◌}
use Rattle.sctp_print.specs.PrintedText.{chunk_lines}
use Rattle.sctp_print.proofs.text.put_chunks.Given as goal

-- with what is still to come it is the whole
abbrev pub invariant-loop-chunk : goal.invariant-loop-chunk
invariant-loop-chunk l = l.out.items ++ chunk_lines l.chunk-iterator ≡ l.fn.out.items ++ chunk_lines l.initial.chunk-iterator
