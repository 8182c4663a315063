use Rattle.std.proofs.Common.{ap, sym}
use Rattle.sctp_model.specs.end.EndView.{Terms}
use Rattle.sctp_association.specs.MachineStands.{MachineStands}
use Rattle.sctp_association.proofs.MachineLemmas.{joined, unjoined}
use Rattle.sctp_association.proofs.machine.Machine.outbound.Goals as goal

pub returns-in-Unjoined : goal.returns-in-Unjoined
unfolding MachineStands
returns-in-Unjoined c = λ v stands. sym (ap (λ (x : Terms). x.outbound) (unjoined _ _ v c.in-Unjoined.is stands).terms)

pub returns-in-Joined : goal.returns-in-Joined
unfolding MachineStands
returns-in-Joined c = λ v stands. ap (λ (x : Terms). x.outbound) (joined _ _ v c.in-Joined.is stands).terms
