use Rattle.std.proofs.Common.{Some, refl}
use Rattle.sctp_model.specs.world.World.{A, B, bag_of}
use Rattle.sctp_model.specs.world.Events as meaning
use Rattle.sctp_model.specs.world.Steps as steps
use Rattle.sctp_pair.specs.Sides.{left, SideStands}
use Rattle.sctp_pair.specs.PairStands.{PairStands}
use Rattle.sctp_pair.proofs.ClockLemmas.{on_time}
use Rattle.sctp_pair.proofs.MemoryLemmas.{anyway}
use Rattle.sctp_pair.proofs.pair.Pair.deliver.Goals as goal

pub returns-in_default-clause-step : goal.returns-in_default-clause-step
unfolding PairStands SideStands
returns-in_default-clause-step c = λ w stands.
    let none = c.in_default.ensures (bag_of w A) (rw c.deref.ensures.value stands.a.bag) in
    rw c.in-A.is (w, steps.IsAbsent A c.args.number none, stands)

pub returns-in_default-packet_at-clause-step : goal.returns-in_default-packet_at-clause-step
unfolding PairStands SideStands
returns-in_default-packet_at-clause-step c = λ w stands.
    let none = c.in_default-packet_at.ensures (bag_of w B) (rw c.deref-in-B.ensures.value stands.b.bag) in
    rw c.in-B.is (w, steps.IsAbsent B c.args.number none, stands)

pub returns-in-Some-clause-step : goal.returns-in-Some-clause-step
unfolding PairStands SideStands
returns-in-Some-clause-step c = λ w stands.
    let n = c.args.number in
    let item = c.in-Some.ensures (bag_of w A) (rw c.deref.ensures.value stands.a.bag) in
    let done = c.arrive.ensures w B (meaning.Deliver A n) (Some item.packet) stands.b (steps.FromBag A n item.packet item.here) item.reads stands.clock_b stands.draw in
    rw c.in-A.is (left w B done.0, done.1, record { a = stands.a; b = done.2; clock_a = stands.clock_a; clock_b = stands.clock_b; draw = stands.draw; openable = refl; on_time = on_time w _ _ _ stands.on_time done.1 })

pub returns-in-Some-packet_at-clause-step : goal.returns-in-Some-packet_at-clause-step
unfolding PairStands SideStands
returns-in-Some-packet_at-clause-step c = λ w stands.
    let n = c.args.number in
    let item = c.in-Some-packet_at.ensures (bag_of w B) (rw c.deref-in-B.ensures.value stands.b.bag) in
    let done = c.arrive-in-B.ensures w A (meaning.Deliver B n) (Some item.packet) stands.a (steps.FromBag B n item.packet item.here) item.reads stands.clock_a stands.draw in
    rw c.in-B.is (left w A done.0, done.1, record { a = done.2; b = stands.b; clock_a = stands.clock_a; clock_b = stands.clock_b; draw = stands.draw; openable = refl; on_time = on_time w _ _ _ stands.on_time done.1 })

pub returns-in-Some-clause-memory : goal.returns-in-Some-clause-memory
unfolding PairStands SideStands
returns-in-Some-clause-memory c = λ w stands.
    let item = c.in-Some.ensures (bag_of w A) (rw c.deref.ensures.value stands.a.bag) in
    rw c.in-A.is (anyway c.arrive.result (item.packet, item.here))

pub returns-in-Some-packet_at-clause-memory : goal.returns-in-Some-packet_at-clause-memory
unfolding PairStands SideStands
returns-in-Some-packet_at-clause-memory c = λ w stands.
    let item = c.in-Some-packet_at.ensures (bag_of w B) (rw c.deref-in-B.ensures.value stands.b.bag) in
    rw c.in-B.is (anyway c.arrive-in-B.result (item.packet, item.here))
