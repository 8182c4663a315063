use Rattle.std.proofs.Common.{refl, arith}
use Rattle.sctp_model.specs.world.World.{A, B}
use Rattle.sctp_model.specs.world.Events as meaning
use Rattle.sctp_pair.specs.Sides.{left}
use Rattle.sctp_pair.specs.PairStands.{PairStands}
use Rattle.sctp_pair.proofs.ClockLemmas.{on_time}
use Rattle.sctp_pair.proofs.ReadLemmas.{is_read, brings_foreign}
use Rattle.sctp_pair.proofs.pair.Pair.foreign.Goals as goal

pub returns-in-A : goal.returns-in-A
unfolding PairStands
returns-in-A c = λ w stands.
    let read = is_read c.args.bytes.now (c.one_packet.ensures c.args.bytes.now) (λ i. omega (arith, c.type_inv.bytes i)) in
    let done = c.arrive.ensures w A (meaning.Foreign A read.0) read.0 stands.a (brings_foreign w A c.args.bytes.now read.0 read.1) read.1 stands.clock_a stands.draw in
    rw c.in-A.is (read.0, left w A done.0, read.1, done.1, record { a = done.2; b = stands.b; clock_a = stands.clock_a; clock_b = stands.clock_b; draw = stands.draw; openable = refl; on_time = on_time w _ _ _ stands.on_time done.1 })

pub returns-in-B : goal.returns-in-B
unfolding PairStands
returns-in-B c = λ w stands.
    let read = is_read c.args.bytes.now (c.one_packet.ensures c.args.bytes.now) (λ i. omega (arith, c.type_inv.bytes i)) in
    let done = c.arrive-in-B.ensures w B (meaning.Foreign B read.0) read.0 stands.b (brings_foreign w B c.args.bytes.now read.0 read.1) read.1 stands.clock_b stands.draw in
    rw c.in-B.is (read.0, left w B done.0, read.1, done.1, record { a = stands.a; b = done.2; clock_a = stands.clock_a; clock_b = stands.clock_b; draw = stands.draw; openable = refl; on_time = on_time w _ _ _ stands.on_time done.1 })
