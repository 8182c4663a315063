use Rattle.std.proofs.Common.{ap, refl, arith}
use Rattle.sctp_model.specs.sender.SenderView.{SenderView}
use Rattle.sctp_model.specs.sender.Abandoning.{worn}
use Rattle.sctp_model.specs.end.Misses.{is_missed}
use Rattle.sctp_association.specs.MachineStands.{MachineStands}
use Rattle.sctp_association.proofs.MachineLemmas.{at_view, joined, unjoined, with_traffic, worn_fresh_by}
use Rattle.sctp_association.proofs.CumLemmas.{wear_stays}
use Rattle.sctp_association.proofs.MissedLemmas.{pace_at, pace_lacks}
use Rattle.sctp_association.proofs.machine.Machine.wear_missed.Goals as goal

pub returns-in-None : goal.returns-in-None
unfolding MachineStands
returns-in-None c = λ v p stands pace. absurd (pace_lacks _ v.sender.cum _ v.pace p c.in-None.is pace stands.pace)

pub returns-in-Unjoined : goal.returns-in-Unjoined
unfolding MachineStands
returns-in-Unjoined c = λ v p stands pace.
    at_view _ _ _ (ap (λ (s : SenderView). record v { sender = s }) (worn_fresh_by (is_missed p.misses) v.sender _ _ (unjoined _ _ v c.in-Unjoined.is stands).sender)) stands

pub returns-in-Joined : goal.returns-in-Joined
unfolding MachineStands
returns-in-Joined c = λ v p stands pace.
    let traffic = (joined _ _ v c.in-Joined.is stands).traffic in
    let from = c.cum-from.ensures _ v.sender v.receiver traffic in
    let kept = pace_at _ v.sender.cum _ _ v.pace p c.in-Some.is pace stands.pace in
    with_traffic _ _ _ v (worn (is_missed p.misses) v.sender) v.receiver c.in-Joined.is stands
    (c.wear_between.ensures _ v.sender v.receiver (is_missed p.misses) traffic (λ i above within. c.missed_end-below.ensures _ v.sender.cum c.cum-from.result p kept (omega (arith, from)) i above))
    (wear_stays (is_missed p.misses) v.sender) refl refl
