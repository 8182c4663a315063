use Rattle.std.proofs.Common.{◌≡◌, ◌<◌, ◌^◌, List}
use Rattle.sctp_model.specs.messages.Pieces.{Piece}
use Rattle.sctp_model.specs.receiver.ReceiverView.{size_of_pieces}
use Rattle.sctp_recv.specs.Filed.{AreFiled}
use Rattle.sctp_recv.specs.inner.Reassembly.{bytes_below}
use Rattle.sctp_recv.proofs.reassembly.kept_on_all.Given as goal

-- the bytes of the streams before this one
abbrev pub invariant-loop-at : goal.invariant-loop-at
invariant-loop-at g l = (kept : List Piece) → AreFiled g.F.Framing.format kept l.streams.items → size_of_pieces kept < 2 ^ 32 → l.total ≡ bytes_below kept l.at
