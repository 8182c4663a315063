use Rattle.std.proofs.Common.{arith, codes}
use Rattle.std.proofs.lemmas.Slice.Eq.{text_from_reads}
use Rattle.std.proofs.lemmas.Grind.{common_steps}
use Rattle.sctp_script.proofs.option_name.OptionName.named.Goals as goal

pub returns-in-115 : goal.returns-in-115
returns-in-115 c = text_from_reads c.args.word.now (codes "standard-closing") (omega arith) (search (arith, common_steps))

pub returns-in-102 : goal.returns-in-102
returns-in-102 c = text_from_reads c.args.word.now (codes "fast-retransmit") (omega arith) (search (arith, common_steps))

pub returns-in-99 : goal.returns-in-99
returns-in-99 c = text_from_reads c.args.word.now (codes "congestion-control") (omega arith) (search (arith, common_steps))
