use Rattle.sctp_model.specs.sender.SenderView.{SenderView}
use Rattle.sctp_send.specs.SenderStands.{StandsFor}
use Rattle.sctp_send.proofs.sender.Sender.pass_all_tickets.Given as goal

abbrev pub invariant-loop : goal.invariant-loop
invariant-loop g l = (v : SenderView) → StandsFor g.F.Framing.format l.initial.self v → StandsFor g.F.Framing.format l.self v
