use Rattle.std.proofs.Common.{sym, subst, arith}
use Rattle.std.proofs.lemmas.Grind.{common_steps}
use Rattle.std.proofs.lemmas.Result.{IfOk-from_err}
use Rattle.std.specs.List.{AllByRecursion}
use Rattle.sctp_wire.specs.Items.{IsWord}
use Rattle.sctp_recv.proofs.WireLemmas.{no_words}
use Rattle.sctp_recv.proofs.duplicates.Duplicates.put.Goals as goal

pub loop-tsn-init : goal.loop-tsn-init
loop-tsn-init c = record {
  words = no_words c.args.list.now.items c.requires;
  in_range = subst (AllByRecursion IsWord) (sym (no_words c.args.list.now.items c.requires)) tt;
  whole = rw c.requires (omega arith);
}

pub returns-in_err-put_word-clause-words : goal.returns-in_err-put_word-clause-words
returns-in_err-put_word-clause-words c = IfOk-from_err c.from_residual.result _ c.from_residual.ensures.0

pub returns-in_err-put_word-clause-in_range : goal.returns-in_err-put_word-clause-in_range
returns-in_err-put_word-clause-in_range c = IfOk-from_err c.from_residual.result _ c.from_residual.ensures.0

pub returns-in_err-put_word-clause-few : goal.returns-in_err-put_word-clause-few
returns-in_err-put_word-clause-few c = IfOk-from_err c.from_residual.result _ c.from_residual.ensures.0

pub loop-tsn-preserved : goal.loop-tsn-preserved
loop-tsn-preserved c = grind (arith, common_steps)

pub returns-clause-words : goal.returns-clause-words
returns-clause-words c = grind (arith, common_steps)
