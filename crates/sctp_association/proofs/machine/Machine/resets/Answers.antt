use Rattle.std.proofs.Common.{ap, sym}
use Rattle.sctp_model.specs.end.EndView as model
use Rattle.sctp_association.specs.MachineStands.{MachineStands}
use Rattle.sctp_association.proofs.MachineLemmas.{joined}
use Rattle.sctp_association.proofs.ResetLemmas.{unreset}
use Rattle.sctp_association.proofs.machine.Machine.resets.Goals as goal

pub returns-in-Unjoined : goal.returns-in-Unjoined
unfolding MachineStands
returns-in-Unjoined c = λ v stands. sym (unreset _ _ v c.in-Unjoined.is stands)

pub returns-in-Joined : goal.returns-in-Joined
unfolding MachineStands
returns-in-Joined c = λ v stands. ap (λ (t : model.Terms). t.reset) (joined _ _ v c.in-Joined.is stands).terms
