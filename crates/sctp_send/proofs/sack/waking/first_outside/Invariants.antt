use Rattle.std.proofs.Common.{◌≡◌, ℕ, ◌<◌, ◌≤◌, length, get_or, true}
use Rattle.sctp_wire.specs.ChunkTree.{block_meaning}
use Rattle.sctp_send.specs.CoveredRuns.{in_run, run_behind}
use Rattle.sctp_send.specs.inner.Dues.{is_in_block}
use Rattle.sctp_send.specs.declared.kept.entry.CoveredRun.{CoveredRun}
use Rattle.sctp_send.proofs.sack.waking.first_outside.Given as goal

abbrev pub invariant-loop-at : goal.invariant-loop-at
invariant-loop-at l = (k i : ℕ) (d : CoveredRun) → l.fn.from ≤ k → k < l.at → k < length l.runs → 0 < i → in_run (run_behind l.passed (get_or l.runs k d)) i ≡ true → is_in_block (block_meaning l.block) i ≡ true
