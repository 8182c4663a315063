use Rattle.std.proofs.Common.{◌∙◌, ap, true}
use Rattle.sctp_model.specs.end.EndView as model
use Rattle.sctp_model.specs.end.Arriving.{acknowledges_in}
use Rattle.sctp_association.specs.StageMeans.{stage_meaning}
use Rattle.sctp_association.specs.MachineStands.{MachineStands}
use Rattle.sctp_association.proofs.MachineLemmas.{at_view}
use Rattle.sctp_association.proofs.DelayLemmas.{acknowledges_none, answered_as}
use Rattle.sctp_association.proofs.machine.Machine.acknowledge.Goals as goal

pub returns-in_default : goal.returns-in_default
unfolding MachineStands
returns-in_default c = λ v n once brings stands. at_view _ _ _ (acknowledges_none n v.phase v (c.in_default.ensures v stands (λ g. true))) stands

pub returns : goal.returns
unfolding MachineStands
returns c = λ v n once brings stands.
    at_view _ _ _ (ap (λ (h : model.Phase). acknowledges_in n true h v) (c.in-Some.ensures v stands)
    ∙ answered_as n (stage_meaning c.in-Some.opened.stage) v c.args.brings_data brings) (c.keep_going.ensures _ (c.owe_sack.ensures v n once stands))
