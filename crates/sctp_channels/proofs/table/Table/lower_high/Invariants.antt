use Rattle.std.proofs.Common.{◌≡◌}
use Rattle.sctp_channels.specs.Meanings.{table_meaning}
use Rattle.sctp_channels.proofs.table.Table.lower_high.Given as goal

-- the streams stay
abbrev pub invariant-loop : goal.invariant-loop
invariant-loop l = table_meaning l.self ≡ table_meaning l.fn.self
