use Rattle.std.proofs.Common.{◌∙◌, ap}
use Rattle.sctp_model.specs.end.EndView.{Configuration, waits_of}
use Rattle.sctp_model.specs.end.Reconfiguring.{request_wait}
use Rattle.sctp_association.specs.MachineStands.{MachineStands}
use Rattle.sctp_association.proofs.machine.Machine.asking_wait.Goals as goal

pub returns : goal.returns
unfolding MachineStands
returns c = λ v stands. c.request_wait.ensures _ _ v.pace stands.pace ∙ ap (λ (x : Configuration). request_wait (waits_of x) v.pace) stands.configuration
