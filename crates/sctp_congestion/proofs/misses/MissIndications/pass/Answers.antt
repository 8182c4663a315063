use Rattle.std.proofs.Common.{sym, ap, ◌∙◌, subst}
use Rattle.sctp_model.specs.end.Misses.{recovery_at}
use Rattle.sctp_congestion.specs.PaceStands.{MissesKept, MissesStand}
use Rattle.sctp_congestion.proofs.misses.MissIndications.pass.Goals as goal

pub returns-clause-step : goal.returns-clause-step
returns-clause-step c = λ before m stands more.
    let s = subst (λ (k : MissesKept). MissesStand before k m) (sym c.self.view_is) stands in
    record {
      first = s.first;
      second = s.second;
      third = s.third;
      exit = c.exit_after-self-inside.ensures ∙ ap (recovery_at c.args.cum) s.exit;
      went = c.pass.ensures.stands before m.went s.went more;
    }
