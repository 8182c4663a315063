use Rattle.std.proofs.Common.{◌≡◌, ◌∷◌, ◌++◌, [], None, refl, sym, subst, arith}
use Rattle.std.proofs.lemmas.Grind.{common_steps}
use Rattle.sctp_recv.proofs.FiledLemmas.{AreFresh, fresh_more, fresh_filed}
use Rattle.sctp_recv.proofs.stream.fresh_streams.Goals as goal

pub loop-preserved : goal.loop-preserved
loop-preserved g c =
    let put : c.push.new.self.items ≡ c.loop.streams.items ++ record { inbound = None } ∷ [] = grind (arith, common_steps) in
    record {
      streams = grind (arith, common_steps);
      fresh = subst AreFresh (sym put) (fresh_more c.loop.streams.items _ c.loop.invariant.fresh refl);
    }

pub returns-clause-filed : goal.returns-clause-filed
returns-clause-filed g c = fresh_filed g.F.Framing.format c.loop.streams.items c.loop.invariant.fresh
