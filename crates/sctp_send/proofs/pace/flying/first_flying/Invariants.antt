use Rattle.std.proofs.Common.{◌≡◌, ℕ, ◌<◌, ◌≤◌, map, false}
use Rattle.sctp_send.specs.OutstandingFields.{item_meaning}
use Rattle.sctp_send.specs.inner.Weighing.{flies_and_passes}
use Rattle.sctp_send.proofs.pace.flying.first_flying.Given as goal

-- before this offset none is in flight that passes
abbrev pub invariant-loop-at : goal.invariant-loop-at
invariant-loop-at g l = (size k : ℕ) → l.fn.from ≤ k → k < l.at → flies_and_passes (g.T.IndexTest.Says l.test) l.cum (map (item_meaning size) l.outstanding.items) k ≡ false
