use Rattle.std.proofs.Common.{◌≡◌, ℕ, ◌<◌, length}
use Rattle.sctp_send.specs.inner.Dues.{due_at, AreWoken}
use Rattle.sctp_send.proofs.sack.waking.wake.Given as goal

-- the moments of the entries up to here are their messages' own
abbrev pub invariant-loop-at : goal.invariant-loop-at
invariant-loop-at l = record {
  passed : l.dues.passed ≡ l.initial.dues.passed;
  long : length l.dues.moments ≡ length l.initial.dues.moments;
  each : (t now : ℕ) → now < due_at l.initial.dues.passed l.dues.moments t → now < due_at l.initial.dues.passed l.initial.dues.moments t;
  here : AreWoken l.initial.dues.passed l.dues.moments l.outstanding.items l.at;
}
