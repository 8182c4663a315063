use Rattle.std.proofs.Common.{◌≤◌, arith}
use Rattle.std.specs.Prelude.{vec_capacity}
use Rattle.sctp_association.specs.MachineStands.{MachineStands}
use Rattle.sctp_association.specs.KeptRoom.{kept_capacity}
use Rattle.sctp_association.proofs.MachineLemmas.{with_room}
use Rattle.sctp_association.proofs.KeptLemmas.{limit_read, smaller, larger}
use Rattle.sctp_association.proofs.machine.Machine.recycle.Goals as goal

pub returns-then-size-from-clause-within : goal.returns-then-size-from-clause-within
unfolding MachineStands kept_capacity
returns-then-size-from-clause-within c = λ v stands. stands.room

pub returns-then-size-capacity-clause-kept : goal.returns-then-size-capacity-clause-kept
unfolding MachineStands kept_capacity
returns-then-size-capacity-clause-kept c = λ v stands.
    let n = limit_read _ v.configuration c.limit.result c.from.result stands.configuration c.limit.ensures.exact c.from.ensures in
    let within : vec_capacity c.args.packet ≤ v.configuration.limit = omega (arith, n, c.if-size-from.false, c.capacity-size.ensures) in
    smaller v.configuration.limit (vec_capacity c.args.packet) _ within (omega (arith, c.if-size-capacity.true, c.capacity-size.ensures, c.capacity.ensures))

pub returns-then-size-capacity-clause-within : goal.returns-then-size-capacity-clause-within
unfolding MachineStands kept_capacity
returns-then-size-capacity-clause-within c = λ v stands. stands.room

pub returns-clause-stands : goal.returns-clause-stands
unfolding MachineStands
returns-clause-stands c = λ v stands.
    let n = limit_read _ v.configuration c.limit.result c.from.result stands.configuration c.limit.ensures.exact c.from.ensures in
    with_room _ v _ stands (omega (arith, n, c.if-size-from.false, c.capacity-size.ensures))

pub returns-clause-kept : goal.returns-clause-kept
unfolding MachineStands kept_capacity
returns-clause-kept c = λ v stands.
    let n = limit_read _ v.configuration c.limit.result c.from.result stands.configuration c.limit.ensures.exact c.from.ensures in
    let within : vec_capacity c.args.packet ≤ v.configuration.limit = omega (arith, n, c.if-size-from.false, c.capacity-size.ensures) in
    larger v.configuration.limit (vec_capacity c.args.packet) (vec_capacity c.args.self.now.room) within (omega (arith, c.if-size-capacity.false, c.capacity-size.ensures, c.capacity.ensures))

pub returns-clause-within : goal.returns-clause-within
unfolding MachineStands kept_capacity
returns-clause-within c = λ v stands.
    let n = limit_read _ v.configuration c.limit.result c.from.result stands.configuration c.limit.ensures.exact c.from.ensures in
    omega (arith, n, c.if-size-from.false, c.capacity-size.ensures)
