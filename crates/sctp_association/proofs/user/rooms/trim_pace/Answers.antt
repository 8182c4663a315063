use Rattle.std.proofs.Common.{sym, subst}
use Rattle.std.specs.Prelude.{Option, Some}
use Rattle.sctp_model.specs.end.Pacing.{Pace}
use Rattle.sctp_congestion.specs.PaceStands.{PacesStand}
use Rattle.sctp_association.proofs.CumLemmas.{pace_there}
use Rattle.sctp_association.proofs.user.rooms.trim_pace.Goals as goal

pub returns-in-Some : goal.returns-in-Some
returns-in-Some c = λ f cum o stands.
    let there = pace_there f cum _ _ o c.in-Some.is stands in
    subst (λ (x : Option Pace). PacesStand f cum (Some c.trim.new.self) x) (sym there.1) (c.trim.ensures f cum there.0 there.2)
