use Rattle.std.proofs.Common.{◌≡◌, map, length}
use Rattle.sctp_chains.specs.Cells.{Kept}
use Rattle.sctp_recv.specs.Fields.{stream_of}
use Rattle.sctp_recv.specs.Filed.{AreFiled}
use Rattle.sctp_recv.proofs.trimming.trim_all.Given as goal

-- no stream changed but by its memory
abbrev pub invariant-loop-at : goal.invariant-loop-at
invariant-loop-at g l = record {
  same : map stream_of l.streams.items ≡ map stream_of l.fn.streams.items;
  size : length l.streams.items ≡ length l.fn.streams.items;
  filed : (kept : Kept) → AreFiled g.F.Framing.format kept l.fn.streams.items → AreFiled g.F.Framing.format kept l.streams.items;
}
