use Rattle.std.proofs.Common.{◌≡◌, map, length}
use Rattle.sctp_chains.specs.Cells.{Kept}
use Rattle.sctp_recv.specs.Fields.{stream_of}
use Rattle.sctp_recv.specs.Filed.{AreFiled}
use Rattle.sctp_recv.specs.inner.Forwarding.{HaveRoom}
use Rattle.sctp_recv.proofs.forward.make_rooms.Given as goal

-- there is room on the streams before this one, and none changed but by its room
abbrev pub invariant-loop-at : goal.invariant-loop-at
invariant-loop-at g l = record {
  same : map stream_of l.streams.items ≡ map stream_of l.fn.streams.items;
  size : length l.streams.items ≡ length l.fn.streams.items;
  filed : (kept : Kept) → AreFiled g.F.Framing.format kept l.fn.streams.items → AreFiled g.F.Framing.format kept l.streams.items;
  room : HaveRoom l.fn.touched l.at l.streams.items;
}
