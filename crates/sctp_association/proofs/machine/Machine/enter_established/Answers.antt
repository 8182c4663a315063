use Rattle.sctp_association.specs.MachineStands.{MachineStands}
use Rattle.sctp_association.proofs.OpeningLemmas.{established_there}
use Rattle.sctp_association.proofs.machine.Machine.enter_established.Goals as goal

pub returns-in-Joined : goal.returns-in-Joined
unfolding MachineStands
returns-in-Joined c = λ v t xs stands phase.
    established_there _ _ v t xs _ _ c.in-Joined.is stands phase (c.turn.ensures v.due t stands.due) (c.turn_timers.ensures t)
