use Rattle.sctp_model.specs.world.World.{A, B}
use Rattle.sctp_pair.specs.Sides.{with_side}
use Rattle.sctp_pair.specs.PairStands.{PairStands}
use Rattle.sctp_pair.proofs.ClockLemmas.{on_time}
use Rattle.sctp_pair.proofs.pair.Pair.take.Goals as goal

pub returns-in-A-clause-step : goal.returns-in-A-clause-step
unfolding PairStands
returns-in-A-clause-step c = λ w stands.
    let done = c.take_at.ensures.step w A stands.a in
    rw c.in-A.is (with_side w A done.0, done.1, record { a = done.2; b = stands.b; clock_a = stands.clock_a; clock_b = stands.clock_b; draw = stands.draw; openable = stands.openable; on_time = on_time w _ _ _ stands.on_time done.1 })

pub returns-in-B-clause-step : goal.returns-in-B-clause-step
unfolding PairStands
returns-in-B-clause-step c = λ w stands.
    let done = c.take_at-in-B.ensures.step w B stands.b in
    rw c.in-B.is (with_side w B done.0, done.1, record { a = stands.a; b = done.2; clock_a = stands.clock_a; clock_b = stands.clock_b; draw = stands.draw; openable = stands.openable; on_time = on_time w _ _ _ stands.on_time done.1 })

pub returns-in-A-clause-memory : goal.returns-in-A-clause-memory
unfolding PairStands
returns-in-A-clause-memory c = λ w stands. rw c.in-A.is (c.take_at.ensures.memory w A stands.a)

pub returns-in-B-clause-memory : goal.returns-in-B-clause-memory
unfolding PairStands
returns-in-B-clause-memory c = λ w stands. rw c.in-B.is (c.take_at-in-B.ensures.memory w B stands.b)
