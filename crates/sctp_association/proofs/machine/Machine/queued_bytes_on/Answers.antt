use Rattle.std.proofs.Common.{ap, sym, arith}
use Rattle.sctp_model.specs.sender.SenderView.{SenderView}
use Rattle.sctp_send.specs.Waiting.{queued_bytes_on}
use Rattle.sctp_association.specs.MachineStands.{MachineStands}
use Rattle.sctp_association.proofs.MachineLemmas.{joined, unjoined}
use Rattle.sctp_association.proofs.machine.Machine.queued_bytes_on.Goals as goal

pub returns-in-Unjoined-clause-bytes : goal.returns-in-Unjoined-clause-bytes
unfolding MachineStands
returns-in-Unjoined-clause-bytes c = λ v stands.
    sym (ap (λ (x : SenderView). queued_bytes_on c.args.stream c.args.payload_ids.now x) (unjoined _ _ v c.in-Unjoined.is stands).sender)

pub returns-in-Unjoined-clause-bound : goal.returns-in-Unjoined-clause-bound
unfolding MachineStands
returns-in-Unjoined-clause-bound c = λ v stands. omega arith

pub returns-in-Joined-clause-bytes : goal.returns-in-Joined-clause-bytes
unfolding MachineStands
returns-in-Joined-clause-bytes c = λ v stands. c.queued_bytes_on.ensures.bytes _ v.sender v.receiver (joined _ _ v c.in-Joined.is stands).traffic

pub returns-in-Joined-clause-bound : goal.returns-in-Joined-clause-bound
unfolding MachineStands
returns-in-Joined-clause-bound c = λ v stands. c.queued_bytes_on.ensures.bound _ v.sender v.receiver (joined _ _ v c.in-Joined.is stands).traffic
