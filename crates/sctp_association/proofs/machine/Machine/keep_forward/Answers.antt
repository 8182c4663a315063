use Rattle.std.proofs.Common.{refl}
use Rattle.sctp_association.specs.MachineStands.{MachineStands}
use Rattle.sctp_association.proofs.MachineLemmas.{joined, with_traffic}
use Rattle.sctp_association.proofs.CumLemmas.{no_lower}
use Rattle.sctp_association.proofs.machine.Machine.keep_forward.Goals as goal

pub returns-in-Joined : goal.returns-in-Joined
unfolding MachineStands
returns-in-Joined c = λ v stands.
    with_traffic _ _ _ v v.sender v.receiver c.in-Joined.is stands (c.keep_forward.ensures _ v.sender v.receiver (joined _ _ v c.in-Joined.is stands).traffic) (no_lower v.sender.cum) refl refl
