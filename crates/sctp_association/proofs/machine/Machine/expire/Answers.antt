use Rattle.std.proofs.Common.{ap}
use Rattle.sctp_model.specs.sender.SenderView.{SenderView}
use Rattle.sctp_association.specs.MachineStands.{MachineStands}
use Rattle.sctp_association.proofs.MachineLemmas.{at_view, joined, unjoined, with_expired, expired_fresh}
use Rattle.sctp_association.proofs.machine.Machine.expire.Goals as goal

pub returns-in-Unjoined : goal.returns-in-Unjoined
unfolding MachineStands
returns-in-Unjoined c = λ v stands.
    at_view _ _ _ (ap (λ (s : SenderView). record v { sender = s }) (expired_fresh v.sender _ _ v.moment (unjoined _ _ v c.in-Unjoined.is stands).sender)) stands

pub returns-in-Joined : goal.returns-in-Joined
unfolding MachineStands
returns-in-Joined c = λ v stands.
    with_expired _ _ _ v _ c.in-Joined.is stands stands.clock (c.expire.ensures _ v.sender v.receiver (joined _ _ v c.in-Joined.is stands).traffic)
