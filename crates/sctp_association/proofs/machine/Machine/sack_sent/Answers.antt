use Rattle.std.proofs.Common.{ap, refl}
use Rattle.sctp_model.specs.receiver.ReceiverView.{ReceiverView}
use Rattle.sctp_model.specs.receiver.SackMade.{sack_sent}
use Rattle.sctp_association.specs.MachineStands.{MachineStands}
use Rattle.sctp_association.proofs.MachineLemmas.{at_view, joined, unjoined, with_traffic}
use Rattle.sctp_association.proofs.BuildLemmas.{told_fresh}
use Rattle.sctp_association.proofs.CumLemmas.{no_lower}
use Rattle.sctp_association.proofs.machine.Machine.sack_sent.Goals as goal

pub returns-in-Unjoined : goal.returns-in-Unjoined
unfolding MachineStands
returns-in-Unjoined c = λ v stands.
    at_view _ _ _ (ap (λ (r : ReceiverView). record v { receiver = r }) (told_fresh v.receiver _ _ (unjoined _ _ v c.in-Unjoined.is stands).receiver)) stands

pub returns-in-Joined : goal.returns-in-Joined
unfolding MachineStands
returns-in-Joined c = λ v stands.
    with_traffic _ _ _ v v.sender (sack_sent v.receiver) c.in-Joined.is stands (c.sack_sent.ensures _ v.sender v.receiver (joined _ _ v c.in-Joined.is stands).traffic) (no_lower v.sender.cum) refl refl
