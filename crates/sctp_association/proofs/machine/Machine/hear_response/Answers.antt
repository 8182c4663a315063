use Rattle.std.proofs.Common.{ap, sym}
use Rattle.std.specs.Prelude.{Bool}
use Rattle.sctp_model.specs.sender.Resetting.{response_taken}
use Rattle.sctp_model.specs.end.EndView.{EndView}
use Rattle.sctp_model.specs.end.Reconfiguring.{in_progress, asking_on}
use Rattle.sctp_association.specs.MachineStands.{MachineStands}
use Rattle.sctp_association.proofs.MachineLemmas.{at_view}
use Rattle.sctp_association.proofs.machine.Machine.hear_response.Goals as goal

pub returns : goal.returns
unfolding MachineStands
returns c = λ v stands.
    let u : EndView = record v { sender = response_taken v.sender c.args.number c.args.code } in
    at_view _ _ _ (ap (λ (b : Bool). asking_on (in_progress b u)) (sym (c.is_asked-answered.ensures v stands))) (c.ask_on.ensures _ (c.restart.ensures u (c.respond.ensures v stands)))
