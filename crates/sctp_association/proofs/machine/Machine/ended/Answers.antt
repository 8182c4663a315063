use Rattle.std.proofs.Common.{◌∙◌, ap}
use Rattle.sctp_model.specs.end.EndView.{ended_of}
use Rattle.sctp_association.specs.MachineStands.{MachineStands}
use Rattle.sctp_association.proofs.MachineLemmas.{phase_joined, phase_unjoined_at}
use Rattle.sctp_association.proofs.machine.Machine.ended.Goals as goal

pub returns-in-Unjoined : goal.returns-in-Unjoined
unfolding MachineStands
returns-in-Unjoined c = λ v stands. c.ended.ensures ∙ ap ended_of (phase_unjoined_at _ _ v c.in-Unjoined.is stands)

pub returns-in-Joined : goal.returns-in-Joined
unfolding MachineStands
returns-in-Joined c = λ v stands. c.ended-in-Joined.ensures ∙ ap ended_of (phase_joined _ _ v c.in-Joined.is stands)
