use Rattle.std.proofs.Common.{true, ap, refl}
use Rattle.sctp_model.specs.sender.SenderView.{SenderView}
use Rattle.sctp_model.specs.sender.Abandoning.{worn}
use Rattle.sctp_association.specs.MachineStands.{MachineStands}
use Rattle.sctp_association.proofs.MachineLemmas.{at_view, joined, unjoined, with_traffic, worn_fresh}
use Rattle.sctp_association.proofs.CumLemmas.{wear_stays}
use Rattle.sctp_association.proofs.machine.Machine.wear.Goals as goal

pub returns-in-Unjoined : goal.returns-in-Unjoined
unfolding MachineStands
returns-in-Unjoined c = λ v stands.
    at_view _ _ _ (ap (λ (s : SenderView). record v { sender = s }) (worn_fresh v.sender _ _ (unjoined _ _ v c.in-Unjoined.is stands).sender)) stands

pub returns-in-Joined : goal.returns-in-Joined
unfolding MachineStands
returns-in-Joined c = λ v stands.
    with_traffic _ _ _ v (worn (λ i. true) v.sender) v.receiver c.in-Joined.is stands
    (c.wear.ensures _ v.sender v.receiver (joined _ _ v c.in-Joined.is stands).traffic) (wear_stays (λ i. true) v.sender) refl refl
