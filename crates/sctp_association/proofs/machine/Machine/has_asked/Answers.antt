use Rattle.std.proofs.Common.{◌∙◌}
use Rattle.sctp_association.specs.MachineStands.{MachineStands}
use Rattle.sctp_association.proofs.MachineLemmas.{joined, unjoined}
use Rattle.sctp_association.proofs.ResetLemmas.{none_pending, asked_some}
use Rattle.sctp_association.proofs.machine.Machine.has_asked.Goals as goal

pub returns-in-Unjoined : goal.returns-in-Unjoined
unfolding MachineStands
returns-in-Unjoined c = λ v stands. none_pending v.sender _ _ (unjoined _ _ v c.in-Unjoined.is stands).sender

pub returns-in-Joined : goal.returns-in-Joined
unfolding MachineStands
returns-in-Joined c = λ v stands. c.is_some.ensures ∙ asked_some v.sender c.request.result (c.request.ensures _ v.sender v.receiver (joined _ _ v c.in-Joined.is stands).traffic)
