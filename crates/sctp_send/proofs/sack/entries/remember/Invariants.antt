use Rattle.std.proofs.Common.{◌≡◌, ℕ, ◌<◌, false}
use Rattle.std.specs.Prelude.{◌||◌}
use Rattle.sctp_model.specs.messages.Acknowledgement.{in_blocks}
use Rattle.sctp_model.specs.sender.SackTaken.{some_is_bad}
use Rattle.sctp_send.specs.CoveredRuns.{in_runs, AreInOrder}
use Rattle.sctp_send.proofs.sack.RunLemmas.{end_of}
use Rattle.sctp_send.proofs.sack.entries.remember.Given as goal

-- what the blocks so far cover, in order, and those still to come behind them
abbrev pub invariant-loop-block : goal.invariant-loop-block
invariant-loop-block l = record {
  order : AreInOrder 0 l.runs.items;
  behind : some_is_bad (end_of 0 l.runs.items) l.block-iterator ≡ false;
  same : (i : ℕ) → 0 < i → (in_runs l.runs.items i || in_blocks 0 l.block-iterator i) ≡ in_blocks 0 l.blocks i;
}
