use Rattle.std.proofs.Common.{◌≡◌, ◌++◌, map}
use Rattle.sctp_wire.specs.ChunkTree.{skip_meaning}
use Rattle.sctp_recv.proofs.entries.by_stream.Given as goal

-- these, and those that are left, are all
abbrev pub invariant-loop-skip : goal.invariant-loop-skip
invariant-loop-skip l = map skip_meaning l.entries.items ++ l.skip-iterator ≡ l.fn.skips.skips
