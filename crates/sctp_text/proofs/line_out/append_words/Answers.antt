use Rattle.std.proofs.Common.{arith}
use Rattle.std.proofs.lemmas.Grind.{common_steps}
use Rattle.sctp_text.specs.WrittenWords.{text_of}
use Rattle.sctp_text.specs.declared.line_out.Word.TheVariants.{Number}
use Rattle.sctp_text.proofs.WrittenLines.{behind_more, not_written}
use Rattle.sctp_text.proofs.line_out.append_words.Goals as goal

pub loop-word-preserved : goal.loop-word-preserved
loop-word-preserved c =
    rw (← behind_more text_of c.args.words.now c.loop-word.word-index (Number 0) _ _ c.loop-word-test.true c.loop-word.invariant) (grind (arith, common_steps))

pub returns-in_err-append_word-clause-part : goal.returns-in_err-append_word-clause-part
returns-in_err-append_word-clause-part c = grind (arith, common_steps)

pub returns-in_err-append-clause-put : goal.returns-in_err-append-clause-put
returns-in_err-append-clause-put c = not_written c.from_residual.result _ c.from_residual.ensures.0

pub returns-in_err-append_word-clause-put : goal.returns-in_err-append_word-clause-put
returns-in_err-append_word-clause-put c = not_written c.from_residual-in_err-append_word.result _ c.from_residual-in_err-append_word.ensures.0
