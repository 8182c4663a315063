use Rattle.std.proofs.Common.{arith}
use Rattle.sctp_chains.proofs.GoingLemmas.{none_there, none_so_low}
use Rattle.sctp_chains.proofs.filed.Filed.drop_upto.Goals as goal

pub returns-then-at-before-clause-left : goal.returns-then-at-before-clause-left
returns-then-at-before-clause-left c =
    none_there c.args.self.now.chains.items c.args.at c.args.upto c.args.held (omega (arith, c.if-at-before.true, c.len-before.ensures))

pub returns-then-first-upto-clause-left : goal.returns-then-first-upto-clause-left
returns-then-first-upto-clause-left c =
    none_so_low c.args.self.now.chains.items c.args.at c.args.upto c.args.held c.get.result.now (omega (arith, c.if-at-before.false, c.len-before.ensures))
    c.get.ensures (omega (arith, c.if-first-upto.true, c.first.ensures))
