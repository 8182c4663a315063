use Rattle.std.proofs.Common.{ap, refl}
use Rattle.sctp_model.specs.sender.SenderView.{SenderView}
use Rattle.sctp_model.specs.sender.Abandoning.{abandon_after}
use Rattle.sctp_association.specs.MachineStands.{MachineStands}
use Rattle.sctp_association.proofs.MachineLemmas.{at_view, joined, unjoined, with_traffic}
use Rattle.sctp_association.proofs.CallLemmas.{abandon_fresh, unknown_fresh}
use Rattle.sctp_association.proofs.CumLemmas.{abandon_stays}
use Rattle.sctp_association.proofs.machine.Machine.abandon_one.Goals as goal

pub returns-in-Unjoined-clause-answer : goal.returns-in-Unjoined-clause-answer
unfolding MachineStands
returns-in-Unjoined-clause-answer c = λ v stands. unknown_fresh v.sender _ _ c.args.ticket.0 (unjoined _ _ v c.in-Unjoined.is stands).sender

pub returns-in-Unjoined-clause-step : goal.returns-in-Unjoined-clause-step
unfolding MachineStands
returns-in-Unjoined-clause-step c = λ v stands.
    at_view _ _ _ (ap (λ (s : SenderView). record v { sender = s }) (abandon_fresh v.sender _ _ c.args.ticket.0 (unjoined _ _ v c.in-Unjoined.is stands).sender)) stands

pub returns-in-Joined-clause-answer : goal.returns-in-Joined-clause-answer
unfolding MachineStands
returns-in-Joined-clause-answer c = λ v stands. c.abandon.ensures.answer _ v.sender v.receiver (joined _ _ v c.in-Joined.is stands).traffic

pub returns-in-Joined-clause-step : goal.returns-in-Joined-clause-step
unfolding MachineStands
returns-in-Joined-clause-step c = λ v stands.
    with_traffic _ _ _ v (abandon_after v.sender c.args.ticket.0) v.receiver c.in-Joined.is stands
    (c.abandon.ensures.step _ v.sender v.receiver (joined _ _ v c.in-Joined.is stands).traffic) (abandon_stays v.sender c.args.ticket.0) refl refl
