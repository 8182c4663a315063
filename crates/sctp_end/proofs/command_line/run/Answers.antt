use Rattle.std.proofs.Common.{arith}
use Rattle.sctp_end.proofs.RunLemmas.{ran_whole, ran_partly}
use Rattle.sctp_end.proofs.command_line.run.Goals as goal

pub returns-in_default-clause-runs : goal.returns-in_default-clause-runs
returns-in_default-clause-runs g c = λ v stands none. absurd (omega (arith, c.in_default.ensures))

pub returns-in-Ok-clause-runs : goal.returns-in-Ok-clause-runs
returns-in-Ok-clause-runs g c = λ v stands none.
    let ran = c.in-Ok.ensures.answers v stands in
    (ran.0, ran.1, ran.2, ran.3, ran_whole _ v _ _ _ _ none c.in-Some.ensures.0 ran.4)

pub returns-in-Err-clause-runs : goal.returns-in-Err-clause-runs
returns-in-Err-clause-runs g c = λ v stands none.
    let ran = c.in-Err.ensures.answers v stands in
    (ran.0, ran.1, ran.2, ran.3, ran_partly _ v _ _ _ _ none c.in-Some.ensures.0 ran.4)
