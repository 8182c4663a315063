use Rattle.std.proofs.Common.{◌∙◌, sym}
use Rattle.sctp_model.specs.end.Acting.{unknown_item}
use Rattle.sctp_association.specs.MachineStands.{MachineStands}
use Rattle.sctp_association.proofs.MachineLemmas.{at_view}
use Rattle.sctp_association.proofs.ReportLemmas.{causes_stay, length-unknown, on_ok_waiting, on_err_waiting}
use Rattle.sctp_association.proofs.machine.Machine.report_chunk.Goals as goal

pub returns-then-not-has_room-clause-step : goal.returns-then-not-has_room-clause-step
unfolding MachineStands
returns-then-not-has_room-clause-step c = λ v stands.
    let x = unknown_item c.args.kind c.args.flags c.args.value.now in
    let past = sym c.if-not-has_room.true ∙ c.has_room.ensures.exact v x (sym stands.configuration) stands.due.causes (length-unknown c.args.kind c.args.flags c.args.value.now) in
    at_view _ _ _ (causes_stay v x past) stands

pub returns-clause-step : goal.returns-clause-step
unfolding MachineStands
returns-clause-step c = λ v stands. on_ok_waiting _ v _ _ c.report.result stands (rw (c.deref.ensures.value, c.in_ok-chunk.ensures) at c.report.ensures.step v (sym stands.configuration) stands.due.causes)

pub returns-clause-refused : goal.returns-clause-refused
unfolding MachineStands
returns-clause-refused c = λ v stands. on_err_waiting _ v _ c.report.result stands c.report.ensures.refused
