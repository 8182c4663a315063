use Rattle.std.proofs.Common.{[]}
use Rattle.std.specs.Prelude.{◌==◌}
use Rattle.sctp_model.specs.wire.Reconfig.{RECONFIG}
use Rattle.sctp_model.specs.end.Closing.{hears, takes_data}
use Rattle.sctp_association.specs.MachineStands.{MachineStands}
use Rattle.sctp_association.proofs.MachineLemmas.{at_view}
use Rattle.sctp_association.proofs.ReconfigLemmas.{takes_agreed, value_apart, read_none, read_some}
use Rattle.sctp_association.proofs.machine.Machine.hear_reconfig.Goals as goal

pub returns-in-Some-clause-step : goal.returns-in-Some-clause-step
unfolding MachineStands
returns-in-Some-clause-step c = λ v kind stands takes.
    let on = takes_agreed (kind == RECONFIG) v.terms.reset (hears takes_data v.phase) takes in
    let x = c.in_ok-hear_requests.ensures.step v stands on in
    let value = c.args.value.now in
    let same = value_apart x.0 v value _ (c.parameters_act.ensures x.0 v value) (read_some value _ c.in-Some.ensures) in
    (x.0, x.1, at_view _ _ _ same (c.hear_responses.ensures _ x.2))

pub returns-in-None-clause-step : goal.returns-in-None-clause-step
unfolding MachineStands
returns-in-None-clause-step c = λ v kind stands takes.
    let on = takes_agreed (kind == RECONFIG) v.terms.reset (hears takes_data v.phase) takes in
    let x = c.in_ok-hear_requests.ensures.step v stands on in
    let value = c.args.value.now in
    let same = value_apart x.0 v value [] (c.parameters_act.ensures x.0 v value) (read_none value c.in-None.ensures) in
    (x.0, x.1, at_view _ _ _ same x.2)
