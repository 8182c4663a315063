use Rattle.std.proofs.Common.{◌≡◌}
use Rattle.sctp_look.proofs.script.Reading.read.Given as goal

-- no call of the reader has failed
abbrev pub invariant-loop : goal.invariant-loop
invariant-loop g l = g.R.Source.failures l.input ≡ g.R.Source.failures l.fn.input
