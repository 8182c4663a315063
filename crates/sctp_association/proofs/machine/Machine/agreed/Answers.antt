use Rattle.std.proofs.Common.{ap, subst}
use Rattle.sctp_model.specs.end.EndView.{Terms}
use Rattle.sctp_association.specs.Agreeing.{AgreedAnswer}
use Rattle.sctp_association.specs.MachineStands.{MachineStands}
use Rattle.sctp_association.proofs.MachineLemmas.{joined, unjoined}
use Rattle.sctp_association.proofs.machine.Machine.agreed.Goals as goal

pub returns-in-Unjoined : goal.returns-in-Unjoined
unfolding MachineStands
returns-in-Unjoined c = λ v stands. let none = (unjoined _ _ v c.in-Unjoined.is stands).terms in (ap (λ (t : Terms). t.outbound) none, ap (λ (t : Terms). t.inbound) none)

pub returns-in-Joined : goal.returns-in-Joined
unfolding MachineStands
returns-in-Joined c = λ v stands. subst (λ (t : Terms). AgreedAnswer t c.on.result) (joined _ _ v c.in-Joined.is stands).terms c.on.ensures
