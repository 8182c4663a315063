use Rattle.std.proofs.Common.{◌≡◌, [], ◌++◌, Err, refl, arith}
use Rattle.std.proofs.lemmas.Grind.{common_steps}
use Rattle.std.proofs.lemmas.List.Elements.{All-nil}
use Rattle.sctp_end.proofs.run.run_lines.Goals as goal

pub loop-lines-init : goal.loop-lines-init
loop-lines-init g c =
    let new = c.new-lines.ensures in
    record {
      so = λ v stands. (
        [],
        [],
        [],
        g.met.R.Source.reads_none _,
        g.met.W.Sink.writes_none _,
        record { given = rw new (record { each = All-nil _; whole = refl; count = refl }); view = v; answers = (refl, refl); stands = stands },
      );
      small = rw new (omega arith);
      reads = refl;
      writes = refl;
    }

pub returns-in_err-run_line-clause-answers : goal.returns-in_err-run_line-clause-answers
returns-in_err-run_line-clause-answers g c = λ v stands.
    let so = c.loop-lines.invariant.so v stands in
    let ran = c.in_err-run_line.ensures.runs _ so.0 so.1 so.2 so.5 in
    let same : c.from_residual.result ≡ Err c.in_err-run_line.field-0.0 = grind (arith, common_steps) in
    (so.0 ++ ran.0, so.1 ++ ran.1, g.met.R.Source.reads_more _ _ _ _ _ so.3 ran.2, g.met.W.Sink.writes_more _ _ _ _ _ so.4 ran.3, rw same ran.4)

pub loop-lines-preserved : goal.loop-lines-preserved
loop-lines-preserved g c = record {
  so = λ v stands.
      let so = c.loop-lines.invariant.so v stands in
      let ran = rw c.if-branch.true at (c.in_ok-run_line.ensures.runs _ so.0 so.1 so.2 so.5) in
      (so.0 ++ ran.0, so.1 ++ ran.1, ran.4.0, g.met.R.Source.reads_more _ _ _ _ _ so.3 ran.2, g.met.W.Sink.writes_more _ _ _ _ _ so.4 ran.3, ran.4.1);
  small = c.in_ok-run_line.ensures.small c.if-branch.true;
  reads = grind (arith, common_steps, c.in_ok-run_line.ensures.failed_reads, c.loop-lines.invariant.reads);
  writes = grind (arith, common_steps, c.in_ok-run_line.ensures.failed_writes, c.loop-lines.invariant.writes);
}

pub returns-clause-answers : goal.returns-clause-answers
returns-clause-answers g c = λ v stands.
    let so = c.loop-lines.invariant.so v stands in
    let ran = rw c.if-branch.false at (c.in_ok-run_line.ensures.runs _ so.0 so.1 so.2 so.5) in
    (so.0 ++ ran.0, so.1 ++ ran.1, g.met.R.Source.reads_more _ _ _ _ _ so.3 ran.2, g.met.W.Sink.writes_more _ _ _ _ _ so.4 ran.3, ran.4)
