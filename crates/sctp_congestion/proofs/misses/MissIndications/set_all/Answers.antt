use Rattle.std.proofs.Common.{sym, subst}
use Rattle.sctp_congestion.specs.Went.{AreThose}
use Rattle.sctp_congestion.specs.PaceStands.{MissesKept, MissesStand}
use Rattle.sctp_congestion.proofs.WentLemmas.{went_tested}
use Rattle.sctp_congestion.proofs.misses.MissIndications.set_all.Goals as goal

pub returns : goal.returns
returns c = λ cum m test stands those.
    let s = subst (λ (k : MissesKept). MissesStand cum k m) (sym c.self.view_is) stands in
    let here = subst (λ (k : MissesKept). AreThose test cum k.went.room c.args.indexes.now) (sym c.self.view_is) those in
    record {
      first = s.first;
      second = s.second;
      third = s.third;
      exit = s.exit;
      went = went_tested cum c.self.inside.went.room c.args.last c.set_all.new.self c.args.indexes.now test m.went here (c.set_all.ensures cum m.went s.went here.within);
    }
