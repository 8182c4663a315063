use Rattle.std.proofs.Common.{arith}
use Rattle.sctp_model.proofs.receiver.AtRest.{fresh_at_rest}
use Rattle.sctp_recv.specs.StandsFor.{StandsFor}
use Rattle.sctp_recv.proofs.ReceiverSteps.{keeps_fresh}
use Rattle.sctp_recv.proofs.receiver.Receiver.new.Goals as goal

pub returns : goal.returns
unfolding StandsFor
returns g c = (
  rw c.new-4.ensures (keeps_fresh g.F.Framing.format c.new-3.result.kept _ c.args.initial_tsn c.args.streams c.args.buffer c.new-3.ensures c.in_ok-streams.ensures.streams c.ranges.streams.fits c.ranges.buffer.fits),
  (c.in_ok-streams.ensures.filed, (fresh_at_rest g.F.Framing.format c.args.initial_tsn c.args.streams c.args.buffer 0, ((λ plain. let count = c.in_ok-lows.ensures in let noted = c.noted_streams.ensures plain in omega (arith, count, noted), λ x has kind. absurd has), record { fits = c.in_ok-ready.ensures.fits; each = c.in_ok-ready.ensures.none }))),
)
