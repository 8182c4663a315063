use Rattle.std.proofs.Common.{ap, sym, arith}
use Rattle.sctp_model.specs.receiver.ReceiverView.{ReceiverView, held_bytes}
use Rattle.sctp_association.specs.MachineStands.{MachineStands}
use Rattle.sctp_association.proofs.MachineLemmas.{joined, unjoined}
use Rattle.sctp_association.proofs.machine.Machine.held_bytes.Goals as goal

pub returns-in-Unjoined-clause-held : goal.returns-in-Unjoined-clause-held
unfolding MachineStands
returns-in-Unjoined-clause-held c = λ v stands. sym (ap (λ (x : ReceiverView). held_bytes x) (unjoined _ _ v c.in-Unjoined.is stands).receiver)

pub returns-in-Unjoined-clause-bound : goal.returns-in-Unjoined-clause-bound
returns-in-Unjoined-clause-bound c = λ v stands. omega arith

pub returns-in-Joined-clause-held : goal.returns-in-Joined-clause-held
unfolding MachineStands
returns-in-Joined-clause-held c = λ v stands. c.held_bytes.ensures.held _ v.sender v.receiver (joined _ _ v c.in-Joined.is stands).traffic

pub returns-in-Joined-clause-bound : goal.returns-in-Joined-clause-bound
unfolding MachineStands
returns-in-Joined-clause-bound c = λ v stands.
    let there = joined _ _ v c.in-Joined.is stands in
    rw there.buffer at (c.held_bytes.ensures.bound _ v.sender v.receiver there.traffic)
