use Rattle.std.proofs.Common.{◌<◌, ◌^◌, length, arith}
use Rattle.sctp_send.proofs.kept.WeightLemmas.{some_counts}
use Rattle.sctp_send.proofs.kept.outstanding.Outstanding.is_unsettled.Goals as goal

pub returns : goal.returns
returns c =
    let s = c.self.inside in
    let small : length s.entries.items < 2 ^ 64 = omega (arith, s.entries.ok.0, s.entries.small.0, s.entries.small.1) in
    rw (← c.self.view_is) (some_counts s.size s.entries.items s.counts.unsettled small c.self.invariant.counted.unsettled)
