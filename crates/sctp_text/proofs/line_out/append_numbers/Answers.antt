use Rattle.std.proofs.Common.{decimal, arith}
use Rattle.std.proofs.lemmas.Grind.{common_steps}
use Rattle.sctp_text.proofs.WrittenLines.{behind_more, not_written}
use Rattle.sctp_text.proofs.line_out.append_numbers.Goals as goal

pub loop-number-preserved : goal.loop-number-preserved
loop-number-preserved c =
    rw (← behind_more decimal c.args.numbers.now c.loop-number.number-index 0 _ _ c.loop-number-test.true c.loop-number.invariant) (grind (arith, common_steps))

pub returns-in_err-put_decimal-clause-part : goal.returns-in_err-put_decimal-clause-part
returns-in_err-put_decimal-clause-part c = grind (arith, common_steps)

pub returns-clause-put : goal.returns-clause-put
returns-clause-put c = grind (arith, common_steps)

pub returns-in_err-append-clause-put : goal.returns-in_err-append-clause-put
returns-in_err-append-clause-put c = not_written c.from_residual.result _ c.from_residual.ensures.0

pub returns-in_err-put_decimal-clause-put : goal.returns-in_err-put_decimal-clause-put
returns-in_err-put_decimal-clause-put c = not_written c.from_residual-in_err-put_decimal.result _ c.from_residual-in_err-put_decimal.ensures.0
