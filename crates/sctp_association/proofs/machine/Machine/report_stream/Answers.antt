use Rattle.std.proofs.Common.{sym}
use Rattle.sctp_association.specs.MachineStands.{MachineStands}
use Rattle.sctp_association.proofs.ReportLemmas.{unfailed, waiting}
use Rattle.sctp_association.proofs.machine.Machine.report_stream.Goals as goal

pub returns : goal.returns
unfolding MachineStands
returns c = λ v stands.
    let told = rw c.stream_value-value.ensures at c.report.ensures.step v (sym stands.configuration) stands.due.causes in
    waiting _ v _ _ stands (unfailed _ c.report.result c.if-is_err.ensures.value told)
