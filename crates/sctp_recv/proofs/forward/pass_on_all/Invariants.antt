use Rattle.std.proofs.Common.{◌≡◌, ◌≤◌, List, length, map}
use Rattle.std.specs.List.Sorted.{IsNonDecreasing, IsPermutation}
use Rattle.sctp_model.specs.receiver.ReceiverView.{ReceiverView}
use Rattle.sctp_model.specs.wire.Chunk.{SkipMeaning}
use Rattle.sctp_wire.specs.ChunkTree.{skip_meaning}
use Rattle.sctp_recv.specs.inner.Forwarding.{AreByStream, HaveRoom, AreQuiet, AreToPass}
use Rattle.sctp_recv.specs.Fields.{stream_of}
use Rattle.sctp_recv.specs.Resets.{restart_in, resets_in}
use Rattle.sctp_recv.specs.inner.Bits.{AreShown}
use Rattle.sctp_recv.proofs.TouchedLemmas.{AreBelow}
use Rattle.sctp_recv.proofs.PassLemmas.{IsUpTo}
use Rattle.sctp_recv.proofs.forward.pass_on_all.Given as goal

-- the streams below the next one are passed, those of this list that came among them, and the others are as they were
abbrev pub invariant-loop-at : goal.invariant-loop-at
invariant-loop-at g l = record {
  size : length l.streams.items ≡ length l.fn.streams.items;
  within : l.next ≤ length l.fn.streams.items;
  shown : AreShown l.fn.ready.words.items (map stream_of l.fn.streams.items) → AreShown l.ready.words.items (map stream_of l.streams.items);
  below : AreBelow l.fn.touched l.at l.next (length l.fn.streams.items);
  upto : (v r : ReceiverView) (xs : List SkipMeaning) → AreByStream l.fn.entries → IsPermutation xs (map skip_meaning l.fn.entries) →
      AreToPass g.F.Framing.format (restart_in (resets_in l.fn.resets)) l.fn.jump xs v r l.fn.streams.items l.fn.held → HaveRoom l.fn.touched (length l.fn.touched) l.fn.streams.items →
      IsNonDecreasing l.fn.touched → AreQuiet g.F.Framing.format (restart_in (resets_in l.fn.resets)) l.fn.jump xs v l.fn.touched l.fn.streams.items →
      (t : ReceiverView) × IsUpTo g.F.Framing.format v r l.fn.streams.items l.streams.items l.fn.held l.left l.next t;
}
