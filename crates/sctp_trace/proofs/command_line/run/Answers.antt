use Rattle.std.proofs.Common.{rules, arith, refl, ◌≡◌, inl, inr, [], subst}
use Rattle.std.proofs.lemmas.Grind.{common_steps}
use Rattle.std.specs.Prelude.{Ok, Err}
use Rattle.sctp_trace.specs.declared.script.ScriptFault.TheVariants.{Line}
use Rattle.sctp_trace.specs.Script.{IsAnswered}
use Rattle.sctp_trace.specs.ExitStatus.{refused_line, Begins}
use Rattle.sctp_trace.proofs.command_line.run.Goals as goal

-- nothing was said
pub returns-in-Ok-clause-runs : goal.returns-in-Ok-clause-runs
returns-in-Ok-clause-runs g c =
    let ran = c.in-Ok.ensures.answer in
    (ran.0, ran.1, [], ran.2, ran.3, g.met.F.Sink.writes_none _, (Ok tt, ran.4, (refl, refl)))

-- the line was said whole, or a beginning of it
pub returns-in-Ok-format-clause-runs : goal.returns-in-Ok-format-clause-runs
returns-in-Ok-format-clause-runs g c =
    let ran = c.in-Err-Line.ensures.answer in
    let end = g.R.Source.IsAtEnd c.run_script.new.input in
    let answer = subst (λ f. IsAnswered end (Err f) ran.0 ran.1) c.in-Err-Line.field-0-is ran.4 in
    let line : c.as_str.result.now ≡ refused_line c.in-Err-Line.number c.in-Err-Line.fault = grind (arith, common_steps) in
    elim c.say.ensures [
      | inl told ↦ (ran.0, ran.1, c.as_str.result.now, ran.2, ran.3, told.1, (Err (Line c.in-Err-Line.number c.in-Err-Line.fault), answer, inl (told.0, line)))
      | inr failed ↦ (
        ran.0,
        ran.1,
        failed.1.0,
        ran.2,
        ran.3,
        failed.1.1,
        (Err (Line c.in-Err-Line.number c.in-Err-Line.fault), answer, inr (failed.0, subst (Begins failed.1.0) line failed.1.2)),
      )
    ]

-- there was no room for the line
pub returns-in-Err-clause-runs : goal.returns-in-Err-clause-runs
returns-in-Err-clause-runs g c =
    let ran = c.in-Err-Line.ensures.answer in
    let end = g.R.Source.IsAtEnd c.run_script.new.input in
    let answer = subst (λ f. IsAnswered end (Err f) ran.0 ran.1) c.in-Err-Line.field-0-is ran.4 in
    (ran.0, ran.1, [], ran.2, ran.3, g.met.F.Sink.writes_none _, (Err (Line c.in-Err-Line.number c.in-Err-Line.fault), answer, inr (refl, (_, refl))))
