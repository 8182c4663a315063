use Rattle.std.proofs.Common.{◌∙◌, subst}
use Rattle.std.specs.Prelude.{Option}
use Rattle.sctp_model.specs.end.EndView.{DataAlarm, format_of}
use Rattle.sctp_model.specs.end.Clock.{with_timer}
use Rattle.sctp_association.specs.MachineStands.{MachineStands}
use Rattle.sctp_association.specs.Weighing.{AreBefore}
use Rattle.sctp_association.specs.declared.peer.pacing.Before.{Before}
use Rattle.sctp_association.proofs.MachineLemmas.{at_view}
use Rattle.sctp_association.proofs.HearingLemmas.{follows_unpaced}
use Rattle.sctp_association.proofs.machine.Machine.follow.Goals as goal

pub returns-in-None : goal.returns-in-None
unfolding MachineStands
returns-in-None c = λ v x t s g before back same phase stands.
    let free = same ∙ subst (λ (b : Option Before). AreBefore (format_of x) v x.sender b) c.in-None.is before in
    at_view _ _ _ (follows_unpaced v.sender (v.timers DataAlarm).wait t x free) (c.start_flying.ensures (with_timer DataAlarm t x) stands)

pub returns-in-Some : goal.returns-in-Some
unfolding MachineStands
returns-in-Some c = λ v x t s g before back same phase stands.
    c.follow_paced.ensures v x t s g (subst (λ (b : Option Before). AreBefore (format_of x) v x.sender b) c.in-Some.is before) back same phase stands
