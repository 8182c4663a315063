use Rattle.std.proofs.Common.{◌∙◌, ap, sym}
use Rattle.std.proofs.lemmas.Bool.{false≢true}
use Rattle.sctp_model.specs.end.EndView.{Configuration}
use Rattle.sctp_association.specs.Reconfigured.{parameters_in}
use Rattle.sctp_association.specs.MachineStands.{MachineStands}
use Rattle.sctp_association.proofs.MachineLemmas.{joined}
use Rattle.sctp_association.proofs.HearingLemmas.{untaken}
use Rattle.sctp_association.proofs.ResetLemmas.{unreset}
use Rattle.sctp_association.proofs.ReconfigLemmas.{requests_stand}
use Rattle.sctp_association.proofs.machine.Machine.hear_requests.Goals as goal

pub returns-in-Unjoined-clause-step : goal.returns-in-Unjoined-clause-step
unfolding MachineStands
returns-in-Unjoined-clause-step c = λ v stands on. absurd (false≢true (sym (unreset _ _ v c.in-Unjoined.is stands) ∙ on))

pub returns-in-Joined-clause-step : goal.returns-in-Joined-clause-step
unfolding MachineStands
returns-in-Joined-clause-step c = λ v stands on.
    let limit = c.limit-limit.ensures.exact ∙ ap (λ (x : Configuration). x.limit) stands.configuration in
    requests_stand _ _ _ v _ (parameters_in c.args.value.now) c.take_requests.result c.in-Joined.is stands on limit
    (c.take_requests.ensures.step _ v.sender v.receiver (joined _ _ v c.in-Joined.is stands).traffic)

pub returns-in-Joined-clause-refused : goal.returns-in-Joined-clause-refused
unfolding MachineStands
returns-in-Joined-clause-refused c = λ v stands.
    untaken _ _ _ v c.take_requests.result c.in-Joined.is stands (c.take_requests.ensures.refused _ v.sender v.receiver (joined _ _ v c.in-Joined.is stands).traffic)
