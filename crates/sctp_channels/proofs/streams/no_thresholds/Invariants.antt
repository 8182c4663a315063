use Rattle.std.proofs.Common.{◌≡◌, replicate}
use Rattle.sctp_channels.specs.Streams.{no_threshold}
use Rattle.sctp_channels.proofs.streams.no_thresholds.Given as goal

-- the thresholds so far
abbrev pub invariant-loop : goal.invariant-loop
invariant-loop l = l.thresholds.items ≡ replicate l.counter no_threshold
