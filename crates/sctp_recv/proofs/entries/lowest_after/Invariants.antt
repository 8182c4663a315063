use Rattle.std.proofs.Common.{◌≡◌, ◌-◌, min, map, take}
use Rattle.sctp_model.specs.numbers.Serial.{COUNTS}
use Rattle.sctp_wire.specs.ChunkTree.{skip_meaning}
use Rattle.sctp_recv.specs.Fields.{lane_at}
use Rattle.sctp_recv.specs.inner.Forwarding.{lowest_after}
use Rattle.sctp_recv.proofs.entries.lowest_after.Given as goal

-- the entries before this one are counted
abbrev pub invariant-loop-skip : goal.invariant-loop-skip
invariant-loop-skip g l = l.after ≡ min (lowest_after g.F.Framing.format (lane_at l.stream l.kind) l.base l.near l.lowest (map skip_meaning (take l.skip-index l.entries))) (COUNTS - 1)
