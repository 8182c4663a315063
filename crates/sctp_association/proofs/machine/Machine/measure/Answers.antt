use Rattle.sctp_model.specs.end.EndView.{format_for}
use Rattle.sctp_model.specs.end.Pacing.{pace_begun}
use Rattle.sctp_model.proofs.PacedEnds.{unmeasured}
use Rattle.sctp_association.specs.MachineStands.{MachineStands}
use Rattle.sctp_association.proofs.CumLemmas.{pace_there, no_pace}
use Rattle.sctp_association.proofs.MachineLemmas.{at_view}
use Rattle.sctp_association.proofs.MeasureLemmas.{measured_there}
use Rattle.sctp_association.proofs.machine.Machine.measure.Goals as goal

pub returns-in-None : goal.returns-in-None
unfolding MachineStands
returns-in-None c = λ v stands. at_view _ _ _ (unmeasured c.args.trip c.args.rto v (no_pace _ _ _ v.pace c.in-None.is stands.pace)) stands

pub returns-in-Some : goal.returns-in-Some
unfolding MachineStands
returns-in-Some c = λ v stands.
    let f = format_for v.terms.interleave in
    let there = pace_there f v.sender.cum _ c.in-Some.pace v.pace c.in-Some.is stands.pace in
    let begun = c.begin.ensures f v.sender.cum there.0 there.2 in
    measured_there _ v there.0 _ _ c.args.trip c.args.rto _ _ stands there.1 begun (c.first_rto.ensures f v.sender.cum (pace_begun c.args.trip there.0) begun) c.rto_min-rto_min.ensures c.set_data_rto.ensures
