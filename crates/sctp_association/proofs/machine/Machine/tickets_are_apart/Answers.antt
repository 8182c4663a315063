use Rattle.std.proofs.Common.{sym, subst}
use Rattle.sctp_model.specs.sender.SenderView.{SenderView}
use Rattle.sctp_model.specs.sender.Filling.{begun_tickets}
use Rattle.sctp_outcomes.specs.ToldOnce.{NoTicketTwice}
use Rattle.sctp_outcomes.proofs.ToldOnce.{tickets_once}
use Rattle.sctp_association.specs.MachineStands.{MachineStands}
use Rattle.sctp_association.proofs.MachineLemmas.{joined, unjoined}
use Rattle.sctp_association.proofs.machine.Machine.tickets_are_apart.Goals as goal

pub returns-in-Unjoined : goal.returns-in-Unjoined
unfolding MachineStands
returns-in-Unjoined c = λ v stands.
    subst (λ (s : SenderView). NoTicketTwice (begun_tickets s.plan s.plan.entries)) (sym (unjoined _ _ v c.in-Unjoined.is stands).sender) tt

pub returns-in-Joined : goal.returns-in-Joined
unfolding MachineStands
returns-in-Joined c = λ v stands. tickets_once _ v.sender (c.reached.ensures _ v.sender v.receiver (joined _ _ v c.in-Joined.is stands).traffic)
