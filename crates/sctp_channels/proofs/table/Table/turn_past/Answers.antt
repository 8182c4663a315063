use Rattle.std.proofs.Common.{ℕ, ◌≤◌, ap, arith}
use Rattle.sctp_channels.specs.Meanings.{table_meaning}
use Rattle.sctp_channels.proofs.HearingLemmas.{one_further}
use Rattle.sctp_channels.proofs.table.Table.turn_past.Goals as goal

pub returns : goal.returns
returns c =
    let low : c.args.stream ≤ 65_535 = omega (arith, c.ranges.stream.fits) in
    ap (λ (n : ℕ). record (table_meaning c.args.self.now) { next = n }) (one_further c.args.stream low)
