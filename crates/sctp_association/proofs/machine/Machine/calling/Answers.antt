use Rattle.std.proofs.Common.{◌≡◌, ◌∙◌, false, ap, sym, subst}
use Rattle.std.specs.Prelude.{MatchOption}
use Rattle.sctp_model.specs.end.EndView as model
use Rattle.sctp_model.specs.end.Opening.{is_calling}
use Rattle.sctp_association.specs.MachineStands.{MachineStands}
use Rattle.sctp_association.proofs.MachineLemmas.{phase_joined}
use Rattle.sctp_association.proofs.OpeningLemmas.{phase_outside, joined_calls_not}
use Rattle.sctp_association.proofs.machine.Machine.calling.Goals as goal

pub returns-in-Unjoined : goal.returns-in-Unjoined
unfolding MachineStands
returns-in-Unjoined c = λ v stands.
    subst (λ (h : model.Phase). MatchOption c.calling.result (is_calling h ≡ false) (λ d. h ≡ model.Calling d)) (phase_outside _ _ v c.in-Unjoined.is stands) c.calling.ensures

pub returns-in-Joined : goal.returns-in-Joined
unfolding MachineStands
returns-in-Joined c = λ v stands. sym (ap is_calling (phase_joined _ _ v c.in-Joined.is stands)) ∙ joined_calls_not _ _
