use Rattle.std.proofs.Common.{◌≡◌, replicate}
use Rattle.sctp_channels.specs.Streams.{unused}
use Rattle.sctp_channels.proofs.table.Table.new.Given as goal

-- the streams so far
abbrev pub invariant-loop : goal.invariant-loop
invariant-loop l = l.streams.items ≡ replicate l.counter unused
