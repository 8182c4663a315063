use Rattle.std.proofs.Common.{◌≡◌, ◌++◌, Err, ap, ◌∙◌, arith}
use Rattle.std.proofs.lemmas.Result.{err_from_is_err_and}
use Rattle.std.proofs.lemmas.Grind.{common_steps}
use Rattle.sctp_trace.specs.Stages.{world_of}
use Rattle.sctp_trace.proofs.ScriptLemmas.{lines_within, closed}
use Rattle.sctp_trace.proofs.ScriptGathered.{behind_gathered}
use Rattle.sctp_trace.proofs.script.run_all.Goals as goal

pub run_line-requires-clause-number : goal.run_line-requires-clause-number
run_line-requires-clause-number g c =
    let so = c.loop.invariant.so in
    omega (arith, so.6.number, so.6.given.count, lines_within so.2)

pub returns-in_err-run_line-clause-answer : goal.returns-in_err-run_line-clause-answer
returns-in_err-run_line-clause-answer g c =
    let so = c.loop.invariant.so in
    let ran = c.in_err-run_line.ensures.runs so.0 so.1 so.2 so.3 so.6 in
    let p = err_from_is_err_and c.from_residual.result c.from_residual.ensures.1 in
    let same : c.from_residual.result ≡ Err c.in_err-run_line.field-0.0 = p.1 ∙ ap Err p.2 in (
      so.0 ++ ran.0,
      so.1 ++ ran.1,
      g.met.R.Source.reads_more _ _ _ _ _ so.4 ran.2,
      g.met.W.Sink.writes_more _ _ _ _ _ so.5 ran.3,
      rw same ran.4,
    )

pub loop-preserved : goal.loop-preserved
loop-preserved g c =
    let so = c.loop.invariant.so in
    let ran = rw c.if-branch.true at (c.in_ok-run_line.ensures.runs so.0 so.1 so.2 so.3 so.6) in
    let on = ran.4 in
    record {
      so = (
        so.0 ++ ran.0,
        so.1 ++ ran.1,
        on.0,
        on.1,
        g.met.R.Source.reads_more _ _ _ _ _ so.4 ran.2,
        g.met.W.Sink.writes_more _ _ _ _ _ so.5 ran.3,
        on.2,
      );
      small = c.in_ok-run_line.ensures.small c.if-branch.true;
      reads = grind (arith, common_steps, c.in_ok-run_line.ensures.failed_reads, c.loop.invariant.reads);
      writes = grind (arith, common_steps, c.in_ok-run_line.ensures.failed_writes, c.loop.invariant.writes);
    }

pub returns-clause-answer : goal.returns-clause-answer
returns-clause-answer g c =
    let so = c.loop.invariant.so in
    let ran = rw c.if-branch.false at (c.in_ok-run_line.ensures.runs so.0 so.1 so.2 so.3 so.6) in
    let last = ran.4 in
    let over = last.1 in
    let close = c.finish.ensures.closes (world_of over.0) over.1.stands in (
      so.0 ++ ran.0,
      so.1 ++ ran.1,
      g.met.R.Source.reads_more _ _ _ _ _ so.4 ran.2,
      g.met.W.Sink.writes_more _ _ _ _ _ so.5 ran.3,
      behind_gathered _ c.finish.result (so.0 ++ ran.0) (so.1 ++ ran.1) _ close.0 _ close.1
          (closed _ c.finish.result c.run_line.new.self (so.0 ++ ran.0) _ over.0 close.0 last.0 over.1 close.2),
    )
