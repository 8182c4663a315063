use Rattle.std.proofs.Common.{ap, refl}
use Rattle.sctp_model.specs.sender.SenderView.{SenderView}
use Rattle.sctp_model.specs.sender.Resetting.{response_taken}
use Rattle.sctp_association.specs.MachineStands.{MachineStands}
use Rattle.sctp_association.proofs.MachineLemmas.{at_view, joined, unjoined, with_traffic}
use Rattle.sctp_association.proofs.ResetLemmas.{responded_fresh}
use Rattle.sctp_association.proofs.CumLemmas.{response_stays}
use Rattle.sctp_association.proofs.machine.Machine.respond.Goals as goal

pub returns-in-Unjoined : goal.returns-in-Unjoined
unfolding MachineStands
returns-in-Unjoined c = λ v stands.
    at_view _ _ _ (ap (λ (s : SenderView). record v { sender = s }) (responded_fresh v.sender _ _ c.args.number c.args.code (unjoined _ _ v c.in-Unjoined.is stands).sender)) stands

pub returns-in-Joined : goal.returns-in-Joined
unfolding MachineStands
returns-in-Joined c = λ v stands.
    with_traffic _ _ _ v (response_taken v.sender c.args.number c.args.code) v.receiver c.in-Joined.is stands
    (c.on_response.ensures _ v.sender v.receiver (joined _ _ v c.in-Joined.is stands).traffic) (response_stays v.sender c.args.number c.args.code) refl refl
