use Rattle.std.proofs.Common.{◌≡◌}
use Rattle.sctp_look.proofs.drawing.draw_rows.Given as goal

-- no call of the writer has failed
abbrev pub invariant-loop-index : goal.invariant-loop-index
invariant-loop-index g l = g.W.Sink.failures l.output ≡ g.W.Sink.failures l.fn.output
