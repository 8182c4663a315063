use Rattle.std.proofs.Common.{refl}
use Rattle.sctp_model.specs.sender.SackTaken.{sack_after}
use Rattle.sctp_wire.specs.ChunkTree.{sack_meaning}
use Rattle.sctp_association.specs.MachineStands.{MachineStands}
use Rattle.sctp_association.proofs.MachineLemmas.{joined, with_traffic}
use Rattle.sctp_association.proofs.HearingLemmas.{never_open}
use Rattle.sctp_association.proofs.CumLemmas.{sack_rises}
use Rattle.sctp_association.proofs.machine.Machine.take_sack.Goals as goal

pub returns-in-Unjoined-clause-answer : goal.returns-in-Unjoined-clause-answer
unfolding MachineStands
returns-in-Unjoined-clause-answer c = λ v t g stands phase. absurd (never_open c.args.self.now _ v t g c.in-Unjoined.is stands phase)

pub returns-in-Unjoined-clause-step : goal.returns-in-Unjoined-clause-step
unfolding MachineStands
returns-in-Unjoined-clause-step c = λ v t g stands phase. absurd (never_open c.args.self.now _ v t g c.in-Unjoined.is stands phase)

pub returns-in-Unjoined-clause-left : goal.returns-in-Unjoined-clause-left
unfolding MachineStands
returns-in-Unjoined-clause-left c = λ v t g stands phase. absurd (never_open c.args.self.now _ v t g c.in-Unjoined.is stands phase)

pub returns-in-Joined-clause-answer : goal.returns-in-Joined-clause-answer
unfolding MachineStands
returns-in-Joined-clause-answer c = λ v t g stands phase. c.on_sack.ensures.answer _ v.sender v.receiver (joined _ _ v c.in-Joined.is stands).traffic

pub returns-in-Joined-clause-step : goal.returns-in-Joined-clause-step
unfolding MachineStands
returns-in-Joined-clause-step c = λ v t g stands phase.
    with_traffic _ _ _ v (sack_after v.sender (sack_meaning c.args.sack.now)) v.receiver c.in-Joined.is stands
    (c.on_sack.ensures.step _ v.sender v.receiver (joined _ _ v c.in-Joined.is stands).traffic) (sack_rises v.sender (sack_meaning c.args.sack.now)) refl refl

pub returns-in-Joined-clause-left : goal.returns-in-Joined-clause-left
unfolding MachineStands
returns-in-Joined-clause-left c = λ v t g stands phase. c.on_sack.ensures.left _ v.sender v.receiver (joined _ _ v c.in-Joined.is stands).traffic
