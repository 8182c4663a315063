use Rattle.std.proofs.Common.{length, ap, sym, arith}
use Rattle.sctp_model.specs.sender.SenderView.{SenderView}
use Rattle.sctp_association.specs.MachineStands.{MachineStands}
use Rattle.sctp_association.proofs.MachineLemmas.{joined, unjoined}
use Rattle.sctp_association.proofs.machine.Machine.queued.Goals as goal

pub returns-in-Unjoined-clause-count : goal.returns-in-Unjoined-clause-count
unfolding MachineStands
returns-in-Unjoined-clause-count c = λ v stands. sym (ap (λ (x : SenderView). length x.queue) (unjoined _ _ v c.in-Unjoined.is stands).sender)

pub returns-in-Unjoined-clause-bound : goal.returns-in-Unjoined-clause-bound
unfolding MachineStands
returns-in-Unjoined-clause-bound c = λ v stands. omega arith

pub returns-in-Joined-clause-count : goal.returns-in-Joined-clause-count
unfolding MachineStands
returns-in-Joined-clause-count c = λ v stands. c.queued.ensures.count _ v.sender v.receiver (joined _ _ v c.in-Joined.is stands).traffic

pub returns-in-Joined-clause-bound : goal.returns-in-Joined-clause-bound
unfolding MachineStands
returns-in-Joined-clause-bound c = λ v stands. c.queued.ensures.bound _ v.sender v.receiver (joined _ _ v c.in-Joined.is stands).traffic
