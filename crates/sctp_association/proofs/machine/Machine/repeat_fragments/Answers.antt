use Rattle.std.specs.Prelude.{option_map}
use Rattle.sctp_model.specs.end.EndView.{EndView}
use Rattle.sctp_model.specs.end.Clock.{is_point_past}
use Rattle.sctp_model.specs.end.Pacing.{expired_pace}
use Rattle.sctp_association.specs.MachineStands.{MachineStands}
use Rattle.sctp_association.proofs.MachineLemmas.{with_due}
use Rattle.sctp_association.proofs.MomentLemmas.{owed_due}
use Rattle.sctp_association.proofs.machine.Machine.repeat_fragments.Goals as goal

pub returns : goal.returns
unfolding MachineStands
returns c = λ v stands.
    let again : EndView = record v { due = record v.due { forward = is_point_past v.sender } } in
    let paced : EndView = record again { pace = option_map (expired_pace v.sender) v.pace } in
    c.repeat.ensures paced (c.expire_pace.ensures again (with_due _ v _ _ stands (owed_due _ v.due _ _ (c.owe_forward.ensures v.due stands.due) (c.is_point_past-past.ensures v stands))))
