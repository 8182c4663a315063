use Rattle.std.proofs.Common.{refl}
use Rattle.sctp_association.specs.MachineStands.{MachineStands}
use Rattle.sctp_association.proofs.MachineLemmas.{joined, with_traffic, with_pace}
use Rattle.sctp_association.proofs.CumLemmas.{no_lower}
use Rattle.sctp_association.proofs.machine.Machine.trim.Goals as goal

pub returns-in-Unjoined : goal.returns-in-Unjoined
unfolding MachineStands
returns-in-Unjoined c = λ v stands. with_pace _ v c.trim_pace.new.pace v.pace stands (c.trim_pace.ensures _ v.sender.cum v.pace stands.pace) stands.unpaced

pub returns-in-Joined : goal.returns-in-Joined
unfolding MachineStands
returns-in-Joined c = λ v stands.
    let paced = with_pace _ v c.trim_pace.new.pace v.pace stands (c.trim_pace.ensures _ v.sender.cum v.pace stands.pace) stands.unpaced in
    with_traffic _ _ _ v v.sender v.receiver c.in-Joined.is paced
    (c.trim_receiver.ensures _ v.sender v.receiver (c.trim_sender.ensures _ v.sender v.receiver (joined _ _ v c.in-Joined.is paced).traffic)) (no_lower v.sender.cum) refl refl
