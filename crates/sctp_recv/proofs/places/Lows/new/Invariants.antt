use Rattle.std.proofs.Common.{◌≡◌, replicate}
use Rattle.sctp_recv.proofs.places.Lows.new.Given as goal

abbrev pub invariant-loop : goal.invariant-loop
invariant-loop l = l.places.items ≡ replicate l.counter 18446744073709551615
