use Rattle.sctp_model.specs.receiver.ReceiverView.{ReceiverView}
use Rattle.sctp_recv.specs.Filed.{AreFiled}
use Rattle.sctp_recv.specs.StandsFor.{AreFindable}
use Rattle.sctp_recv.proofs.forward.note_lowest.Given as goal

abbrev pub invariant-loop-at : goal.invariant-loop-at
invariant-loop-at g l = (v : ReceiverView) → AreFiled g.F.Framing.format v.kept l.streams.items → AreFindable g.F.Framing.format v l.fn.lows → AreFindable g.F.Framing.format v l.lows
