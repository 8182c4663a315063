use Rattle.std.proofs.Common.{◌≡◌, ℕ, Bool, suc, ◌+◌, ◌-◌, ◌<◌, length}
use Rattle.sctp_model.specs.sender.SenderView.{SenderView}
use Rattle.sctp_send.specs.SenderStands.{StandsFor}
use Rattle.sctp_send.specs.inner.Testing.{passes_between}
use Rattle.sctp_send.proofs.abandon.WearLemmas.{worn_to}
use Rattle.sctp_send.proofs.sender.Sender.wear_offsets.Given as goal

-- the offsets up to here are done; CUM stays
abbrev pub invariant-loop-at : goal.invariant-loop-at
invariant-loop-at g l = (v : SenderView) (missed : ℕ → Bool) → StandsFor g.F.Framing.format l.initial.self v
    → ((k : ℕ) → k < length l.initial.self.items → passes_between (g.T.IndexTest.Says l.test) l.initial.self.cum l.from l.to k ≡ missed (suc (v.cum + k)))
    → StandsFor g.F.Framing.format l.self (worn_to missed v l.first (l.at - l.first))
