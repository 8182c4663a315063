use Rattle.std.proofs.Common.{◌≤◌}
use Rattle.sctp_model.specs.sender.SenderView.{SenderView}
use Rattle.sctp_model.proofs.sender.ExpiredLaws.{expired_to}
use Rattle.sctp_send.specs.SenderStands.{StandsFor}
use Rattle.sctp_send.proofs.sender.Sender.expire_all.Given as goal

-- the tickets up to the last one are done
abbrev pub invariant-loop : goal.invariant-loop
invariant-loop g l = record {
  low : l.counter ≤ l.last;
  done : (v : SenderView) → StandsFor g.F.Framing.format l.initial.self v → StandsFor g.F.Framing.format l.self (expired_to l.now v l.last) × (l.last ≤ v.tickets);
}
