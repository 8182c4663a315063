use Rattle.std.proofs.Common.{◌≡◌, ℕ, ◌<◌, ◌≤◌, false}
use Rattle.sctp_model.specs.sender.SenderView.{SenderView}
use Rattle.sctp_model.specs.sender.Abandoning.{is_to_expire}
use Rattle.sctp_send.specs.SenderStands.{StandsFor}
use Rattle.sctp_send.proofs.sender.Sender.lowest_late.Given as goal

-- no ticket up to here is to expire
abbrev pub invariant-loop : goal.invariant-loop
invariant-loop g l = record {
  low : l.counter ≤ l.last;
  above : l.fn.last ≤ l.last;
  before : (v : SenderView) → StandsFor g.F.Framing.format l.self v → (t : ℕ) → l.fn.last < t → t ≤ l.last → is_to_expire v l.now t ≡ false;
}
