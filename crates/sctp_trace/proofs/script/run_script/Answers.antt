use Rattle.std.proofs.Common.{◌++◌}
use Rattle.sctp_trace.proofs.ScriptAnswers.{answered}
use Rattle.sctp_trace.proofs.ScriptGathered.{closed_so}
use Rattle.sctp_trace.proofs.script.run_script.Goals as goal

pub returns-clause-answer : goal.returns-clause-answer
returns-clause-answer g c =
    let ran = c.run_lines-ended.ensures.answer in
    let close = rw c.deref.ensures.value at c.close.ensures.closed in (
      ran.0,
      ran.1 ++ close.0,
      ran.2,
      g.met.W.Sink.writes_more _ _ _ _ _ ran.3 close.1,
      answered c.lines_are_there.ensures _ c.close.result ran.0 (ran.1 ++ close.0) (closed_so _ c.run_lines-ended.result c.close.result ran.0 ran.1 _ close.0 ran.4 close.2),
    )
