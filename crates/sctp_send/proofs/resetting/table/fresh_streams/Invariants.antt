use Rattle.std.proofs.Common.{◌≡◌}
use Rattle.std.specs.Prelude.{replicate}
use Rattle.sctp_send.specs.declared.kept.resets.Sending.TheVariants.{Sends}
use Rattle.sctp_send.proofs.resetting.table.fresh_streams.Given as goal

abbrev pub invariant-loop : goal.invariant-loop
invariant-loop l = l.made.items ≡ replicate l.counter (record { ordered = 0; unordered = 0; sending = Sends })
