use Rattle.sctp_send.proofs.fill.FilledLemmas.{IsFilledSoFar}
use Rattle.sctp_send.specs.inner.Stocking.{bare}
use Rattle.sctp_send.proofs.told.Told.put_all.Given as goal

abbrev pub invariant-loop-turn : goal.invariant-loop-turn
invariant-loop-turn g l = IsFilledSoFar g.F.Framing.format (bare l.self) l.initial.packet l.packet l.initial.stock l.stock l.turn l.sendings
