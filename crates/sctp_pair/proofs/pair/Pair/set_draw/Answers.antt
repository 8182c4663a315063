use Rattle.std.proofs.Common.{refl}
use Rattle.sctp_model.specs.world.Steps as steps
use Rattle.sctp_pair.specs.PairStands.{PairStands}
use Rattle.sctp_pair.proofs.ClockLemmas.{on_time}
use Rattle.sctp_pair.proofs.pair.Pair.set_draw.Goals as goal

pub returns : goal.returns
unfolding PairStands
returns c = λ w stands.
    let d = c.args.draw in
    (record w { draw = d }, steps.Draws d c.tag-tag.ensures.drawn, record { a = stands.a; b = stands.b; clock_a = stands.clock_a; clock_b = stands.clock_b; draw = refl; openable = stands.openable; on_time = on_time w _ _ _ stands.on_time (steps.Draws d c.tag-tag.ensures.drawn) })
