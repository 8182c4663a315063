use Rattle.sctp_association.specs.MachineStands.{MachineStands}
use Rattle.sctp_association.proofs.MachineLemmas.{turned_open}
use Rattle.sctp_association.proofs.machine.Machine.turn.Goals as goal

pub returns-in-Joined : goal.returns-in-Joined
unfolding MachineStands
returns-in-Joined c = λ v t g stands phase.
    turned_open _ _ v t g c.args.stage _ _ c.in-Joined.is stands phase (c.turn.ensures v.due t stands.due) (c.turn_timers.ensures t)
