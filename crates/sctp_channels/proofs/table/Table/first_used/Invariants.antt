use Rattle.std.proofs.Common.{◌≡◌}
use Rattle.sctp_channels.specs.Meanings.{table_meaning}
use Rattle.sctp_channels.proofs.UsedLemmas.{UsedFrom}
use Rattle.sctp_channels.proofs.table.Table.first_used.Given as goal

-- the streams stay, and none passed is used
abbrev pub invariant-loop-stream : goal.invariant-loop-stream
invariant-loop-stream l = (table_meaning l.self ≡ table_meaning l.fn.self) × (l.self.used.high ≡ l.fn.self.used.high) × UsedFrom (table_meaning l.self) l.stream
