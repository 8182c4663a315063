use Rattle.std.proofs.Common.{◌≡◌, ℕ, ◌<◌, length, get_or, true}
use Rattle.sctp_model.specs.messages.Acknowledgement.{in_blocks}
use Rattle.sctp_send.specs.CoveredRuns.{in_run, run_behind}
use Rattle.sctp_send.specs.declared.kept.entry.CoveredRun.{CoveredRun}
use Rattle.sctp_send.proofs.sack.waking.lie_in.Given as goal

-- the runs up to here lie in blocks, and more blocks are to come
abbrev pub invariant-loop-block : goal.invariant-loop-block
invariant-loop-block l = record {
  rest : (i : ℕ) → in_blocks 0 l.block-iterator i ≡ true → in_blocks 0 l.blocks i ≡ true;
  inside : (k i : ℕ) (d : CoveredRun) → k < l.next → k < length l.runs → 0 < i → in_run (run_behind l.passed (get_or l.runs k d)) i ≡ true → in_blocks 0 l.blocks i ≡ true;
}
