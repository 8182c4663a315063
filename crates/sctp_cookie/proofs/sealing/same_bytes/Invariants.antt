use Rattle.std.proofs.Common.{length}
use Rattle.sctp_cookie.proofs.Comparing.{Compares}
use Rattle.sctp_cookie.proofs.sealing.same_bytes.Given as goal

-- so far there is no difference exactly where the bytes are the same
abbrev pub invariant-loop-one : goal.invariant-loop-one
invariant-loop-one l = Compares l.left l.right (length l.yielded) l.difference
