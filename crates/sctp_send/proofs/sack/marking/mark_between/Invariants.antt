use Rattle.std.proofs.Common.{◌≡◌, ℕ, length}
use Rattle.sctp_send.specs.PartsKept.{IsSameRoom}
use Rattle.sctp_send.specs.inner.Marking.{AreCapped, all_timed}
use Rattle.sctp_send.specs.inner.Testing.{passes_between}
use Rattle.sctp_send.proofs.sack.marking.mark_between.Given as goal

abbrev pub invariant-loop-at : goal.invariant-loop-at
invariant-loop-at g l = record {
  items : (rs : ℕ → ℕ) → AreCapped rs 0 l.initial.outstanding.items → l.outstanding.items ≡ all_timed l.partial rs (passes_between (g.T.IndexTest.Says l.test) l.cum l.first l.at) l.initial.outstanding.items;
  long : length l.outstanding.items ≡ length l.initial.outstanding.items;
  room : IsSameRoom l.initial.outstanding l.outstanding;
}
