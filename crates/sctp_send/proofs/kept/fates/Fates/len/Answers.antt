use Rattle.std.proofs.Common.{arith}
use Rattle.sctp_send.proofs.kept.FateLemmas.{long_all}
use Rattle.sctp_send.proofs.kept.fates.Fates.len.Goals as goal

pub returns-clause-len : goal.returns-clause-len
returns-clause-len c =
    let s = c.self.inside in
    let long = long_all s.ended s.blocks.items s.mixed.items s.recent.items c.self.invariant in
    rw (← c.self.view_is) (omega (arith, long, s.recent.ok))

pub returns-clause-ended : goal.returns-clause-ended
returns-clause-ended c =
    let s = c.self.inside in
    let long = long_all s.ended s.blocks.items s.mixed.items s.recent.items c.self.invariant in
    rw (← c.self.view_is) (omega (arith, long))
