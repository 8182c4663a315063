use Rattle.std.proofs.Common.{map, take}
use Rattle.sctp_wire.specs.ChunkTree.{skip_meaning}
use Rattle.sctp_recv.specs.Resets.{restart_in, resets_in}
use Rattle.sctp_recv.specs.inner.Forwarding.{CountAllOn}
use Rattle.sctp_recv.proofs.entries.all_count.Given as goal

-- the numbers of the entries before this one are counts
abbrev pub invariant-loop-skip : goal.invariant-loop-skip
invariant-loop-skip g l = CountAllOn g.F.Framing.format (restart_in (resets_in l.resets)) l.streams.items (map skip_meaning (take l.skip-index l.entries))
