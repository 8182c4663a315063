use Rattle.std.proofs.Common.{IfOk, subst}
use Rattle.sctp_model.specs.end.EndView.{Configuration}
use Rattle.sctp_model.specs.world.World.{start}
use Rattle.sctp_events.specs.Setups.{setup_with}
use Rattle.sctp_pair.specs.PairStands.{PairStands}
use Rattle.sctp_pair.proofs.pair.Pair.with_key.Goals as goal

pub returns : goal.returns
returns c = λ s under.
    let made = c.of_two_with_key.ensures s under in
    let of_a = subst (λ (a : Configuration). IfOk c.of_two_with_key.result (λ p. PairStands p (start (setup_with a c.alike.result.b s)))) c.alike.ensures.0 made in
    subst (λ (b : Configuration). IfOk c.of_two_with_key.result (λ p. PairStands p (start (setup_with c.args.config.a b s)))) c.alike.ensures.1 of_a
