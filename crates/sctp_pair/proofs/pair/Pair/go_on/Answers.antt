use Rattle.std.proofs.Common.{◌≡◌, max, arith}
use Rattle.std.proofs.lemmas.Grind.{common_steps}
use Rattle.sctp_model.specs.world.World.{A, B, with_clock}
use Rattle.sctp_model.specs.world.Steps as steps
use Rattle.sctp_pair.specs.PairStands.{PairStands}
use Rattle.sctp_pair.proofs.ClockLemmas.{on_time}
use Rattle.sctp_pair.proofs.pair.Pair.go_on.Goals as goal

pub returns-in-A : goal.returns-in-A
unfolding PairStands
returns-in-A c = λ w stands.
    let m = c.args.moment in
    let step = steps.TimeGoesOn A m (omega (arith, c.ranges.moment.fits)) in
    let clock : max c.args.self.now.clock_a m ≡ c.max-self.result = grind (arith, common_steps) in
    rw c.in-A.is (with_clock w A m, step, record { a = stands.a; b = stands.b; clock_a = rw stands.clock_a clock; clock_b = stands.clock_b; draw = stands.draw; openable = stands.openable; on_time = on_time w _ _ _ stands.on_time step })

pub returns-in-B : goal.returns-in-B
unfolding PairStands
returns-in-B c = λ w stands.
    let m = c.args.moment in
    let step = steps.TimeGoesOn B m (omega (arith, c.ranges.moment.fits)) in
    let clock : max c.args.self.now.clock_b m ≡ c.max-self-in-B.result = grind (arith, common_steps) in
    rw c.in-B.is (with_clock w B m, step, record { a = stands.a; b = stands.b; clock_a = stands.clock_a; clock_b = rw stands.clock_b clock; draw = stands.draw; openable = stands.openable; on_time = on_time w _ _ _ stands.on_time step })
