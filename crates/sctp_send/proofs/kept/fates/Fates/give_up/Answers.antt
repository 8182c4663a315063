use Rattle.std.proofs.Common.{arith}
use Rattle.sctp_send.proofs.kept.FateLemmas.{long_all}
use Rattle.sctp_send.proofs.kept.fates.Fates.give_up.Goals as goal

pub returns-clause-few : goal.returns-clause-few
returns-clause-few c =
    let s = c.self.inside in
    let long = long_all s.ended s.blocks.items s.mixed.items s.recent.items c.self.invariant in
    omega (arith, long, c.self.invariant.few)
