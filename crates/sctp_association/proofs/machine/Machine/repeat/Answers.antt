use Rattle.std.proofs.Common.{ap, refl}
use Rattle.sctp_model.specs.sender.SenderView.{SenderView}
use Rattle.sctp_model.specs.sender.Abandoning.{timed_out}
use Rattle.sctp_association.specs.MachineStands.{MachineStands}
use Rattle.sctp_association.proofs.MachineLemmas.{at_view, joined, unjoined, with_traffic, timed_out_fresh}
use Rattle.sctp_association.proofs.CumLemmas.{no_lower}
use Rattle.sctp_association.proofs.machine.Machine.repeat.Goals as goal

pub returns-in-Unjoined : goal.returns-in-Unjoined
unfolding MachineStands
returns-in-Unjoined c = λ v stands.
    at_view _ _ _ (ap (λ (s : SenderView). record v { sender = s }) (timed_out_fresh v.sender _ _ (unjoined _ _ v c.in-Unjoined.is stands).sender)) stands

pub returns-in-Joined : goal.returns-in-Joined
unfolding MachineStands
returns-in-Joined c = λ v stands.
    with_traffic _ _ _ v (timed_out v.sender) v.receiver c.in-Joined.is stands
    (c.on_timeout.ensures _ v.sender v.receiver (joined _ _ v c.in-Joined.is stands).traffic) (no_lower v.sender.cum) refl refl
