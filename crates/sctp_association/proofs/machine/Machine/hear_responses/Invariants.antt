use Rattle.std.proofs.Common.{◌≡◌}
use Rattle.sctp_model.specs.end.EndView.{EndView}
use Rattle.sctp_association.specs.Reconfigured.{responses_heard}
use Rattle.sctp_association.specs.MachineStands.{MachineStands}
use Rattle.sctp_association.proofs.machine.Machine.hear_responses.Given as goal

-- what the responses that are left lead to is what all of them do
abbrev pub invariant-loop-parameter : goal.invariant-loop-parameter
invariant-loop-parameter l = (v : EndView) → MachineStands l.fn.self v →
    (w : EndView) × MachineStands l.self w × (responses_heard w l.parameter-iterator ≡ responses_heard v l.fn.parameters)
