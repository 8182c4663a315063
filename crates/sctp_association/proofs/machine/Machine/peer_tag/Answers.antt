use Rattle.std.proofs.Common.{◌∙◌, ap}
use Rattle.sctp_model.specs.end.UserCalls.{peer_tag}
use Rattle.sctp_association.specs.MachineStands.{MachineStands}
use Rattle.sctp_association.proofs.MachineLemmas.{phase_joined}
use Rattle.sctp_association.proofs.AbortLemmas.{no_tag}
use Rattle.sctp_association.proofs.machine.Machine.peer_tag.Goals as goal

pub returns-in-Unjoined : goal.returns-in-Unjoined
unfolding MachineStands
returns-in-Unjoined c = λ v stands. no_tag _ _ v c.in-Unjoined.is stands

pub returns-in-Joined : goal.returns-in-Joined
unfolding MachineStands
returns-in-Joined c = λ v stands. c.peer_tag.ensures ∙ ap peer_tag (phase_joined _ _ v c.in-Joined.is stands)
