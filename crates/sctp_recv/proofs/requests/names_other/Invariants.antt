use Rattle.std.proofs.Common.{◌≡◌, nat_le}
use Rattle.std.specs.List.{list_any}
use Rattle.sctp_recv.proofs.requests.names_other.Given as goal

-- those before what is left exist
abbrev pub invariant-loop-stream : goal.invariant-loop-stream
invariant-loop-stream l = list_any (nat_le l.count) l.stream-iterator ≡ list_any (nat_le l.count) l.fn.named
