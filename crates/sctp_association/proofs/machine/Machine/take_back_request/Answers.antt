use Rattle.std.proofs.Common.{refl}
use Rattle.sctp_model.specs.end.EndView.{EndView}
use Rattle.sctp_model.specs.sender.Resetting.{asked}
use Rattle.sctp_association.specs.MachineStands.{MachineStands}
use Rattle.sctp_association.proofs.MachineLemmas.{joined, unjoined, with_traffic}
use Rattle.sctp_association.proofs.AskLemmas.{unasked_fresh}
use Rattle.sctp_association.proofs.CumLemmas.{no_lower}
use Rattle.sctp_association.proofs.machine.Machine.take_back_request.Goals as goal

pub returns-in-Unjoined : goal.returns-in-Unjoined
unfolding MachineStands
returns-in-Unjoined c = λ v stands may was. absurd (unasked_fresh v.sender _ _ (unjoined _ _ (record v { sender = asked v.sender }) c.in-Unjoined.is stands).sender)

pub returns-in-Joined : goal.returns-in-Joined
unfolding MachineStands
returns-in-Joined c = λ v stands may was.
    let w : EndView = record v { sender = asked v.sender } in
    with_traffic _ _ _ w v.sender v.receiver c.in-Joined.is stands (c.take_back_request.ensures _ v.sender v.receiver (joined _ _ w c.in-Joined.is stands).traffic may was) (no_lower v.sender.cum) refl refl
