use Rattle.std.proofs.Common.{List, ◌∙◌, ap, arith, set, length}
use Rattle.sctp_send.specs.declared.kept.entry.CoveredRun.{CoveredRun}
use Rattle.sctp_send.proofs.sack.RunLemmas.{length-first_behind, behind_more}
use Rattle.sctp_send.proofs.sack.entries.move_on.Goals as goal

pub loop-at-preserved : goal.loop-at-preserved
loop-at-preserved c =
    let now = c.loop-at.runs.items in
    let long = ap (λ (rs : List CoveredRun). length rs) c.loop-at.invariant ∙ length-first_behind c.args.passed c.loop-at.at c.args.runs.now.items in
    ap (λ (r : CoveredRun). set now c.loop-at.at r) c.run_behind.ensures
    ∙ behind_more c.args.passed c.loop-at.at c.args.runs.now.items now c.index.result.now (omega (arith, long)) c.loop-at.invariant c.index.ensures
