use Rattle.std.proofs.Common.{refl}
use Rattle.sctp_send.specs.SenderAnswers.{lane_for}
use Rattle.sctp_association.specs.MachineStands.{MachineStands}
use Rattle.sctp_association.proofs.MachineLemmas.{joined, unjoined, with_traffic}
use Rattle.sctp_association.proofs.CallLemmas.{refuses_fresh}
use Rattle.sctp_association.proofs.CumLemmas.{queue_stays}
use Rattle.sctp_association.proofs.machine.Machine.queue.Goals as goal

pub returns-in-Unjoined-clause-answer : goal.returns-in-Unjoined-clause-answer
unfolding MachineStands
returns-in-Unjoined-clause-answer c = λ v stands. refuses_fresh v.sender _ _ c.args.stream c.args.bytes.items (unjoined _ _ v c.in-Unjoined.is stands).sender

pub returns-in-Unjoined-clause-step : goal.returns-in-Unjoined-clause-step
returns-in-Unjoined-clause-step c = λ v stands. stands

pub returns-in-Joined-clause-answer : goal.returns-in-Joined-clause-answer
unfolding MachineStands
returns-in-Joined-clause-answer c = λ v stands. c.queue.ensures.answer _ v.sender v.receiver (joined _ _ v c.in-Joined.is stands).traffic

pub returns-in-Joined-clause-step : goal.returns-in-Joined-clause-step
unfolding MachineStands
returns-in-Joined-clause-step c = λ v stands.
    with_traffic _ _ _ v _ v.receiver c.in-Joined.is stands (c.queue.ensures.step _ v.sender v.receiver (joined _ _ v c.in-Joined.is stands).traffic)
    (queue_stays v.sender (lane_for c.args.stream c.args.ordered) c.args.payload_id c.args.bytes.items c.args.until c.args.limit c.queue.result) refl refl
