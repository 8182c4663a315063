use Rattle.std.proofs.Common.{true}
use Rattle.sctp_association.specs.MachineStands.{MachineStands}
use Rattle.sctp_association.proofs.MachineLemmas.{with_due}
use Rattle.sctp_association.proofs.machine.Machine.repeat_request.Goals as goal

pub returns : goal.returns
unfolding MachineStands
returns c = λ v stands.
    c.retry_request.ensures (record v { due = record v.due { request = true } }) (with_due _ v _ (record v.due { request = true }) stands (c.owe_request.ensures v.due stands.due))
