use Rattle.sctp_model.specs.world.World.{A, B}
use Rattle.sctp_pair.specs.Sides.{with_side}
use Rattle.sctp_pair.specs.PairStands.{PairStands}
use Rattle.sctp_pair.proofs.ClockLemmas.{on_time}
use Rattle.sctp_pair.proofs.pair.Pair.send.Goals as goal

pub returns-in-A : goal.returns-in-A
unfolding PairStands
returns-in-A c = λ w stands.
    let done = c.send_at.ensures w A stands.a in
    rw c.in-A.is (with_side w A done.0, done.1, record { a = done.2; b = stands.b; clock_a = stands.clock_a; clock_b = stands.clock_b; draw = stands.draw; openable = stands.openable; on_time = on_time w _ _ _ stands.on_time done.1 })

pub returns-in-B : goal.returns-in-B
unfolding PairStands
returns-in-B c = λ w stands.
    let done = c.send_at-in-B.ensures w B stands.b in
    rw c.in-B.is (with_side w B done.0, done.1, record { a = stands.a; b = done.2; clock_a = stands.clock_a; clock_b = stands.clock_b; draw = stands.draw; openable = stands.openable; on_time = on_time w _ _ _ stands.on_time done.1 })
