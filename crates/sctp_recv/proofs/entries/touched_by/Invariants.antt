use Rattle.std.proofs.Common.{ℕ, ◌⊎◌}
use Rattle.std.specs.List.{Contains}
use Rattle.sctp_recv.specs.inner.Forwarding.{IsNamed, IsTouched}
use Rattle.sctp_recv.proofs.entries.touched_by.Given as goal

-- what is touched is listed already, or named by an entry that is left
abbrev pub invariant-loop-skip : goal.invariant-loop-skip
invariant-loop-skip l = (s : ℕ) → IsTouched s l.fn.lows l.fn.jump l.fn.skips.skips → Contains l.streams.items s ⊎ IsNamed s l.skip-iterator
