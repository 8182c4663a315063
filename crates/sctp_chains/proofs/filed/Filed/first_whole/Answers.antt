use Rattle.std.proofs.Common.{map, arith}
use Rattle.sctp_chains.specs.Links.{chain_of}
use Rattle.sctp_chains.proofs.ListLemmas.{taken_has}
use Rattle.sctp_chains.proofs.WholeCounts.{none_whole}
use Rattle.sctp_chains.proofs.filed.Filed.first_whole.Goals as goal

pub returns-then-self-eq0-clause-found : goal.returns-then-self-eq0-clause-found
returns-then-self-eq0-clause-found c = λ chains x there low high. none_whole (map chain_of c.args.self.now.chains.items) (omega (arith, c.args.self.now.counted, c.if-self-eq0.true)) x there

pub returns-then-self-eq0-clause-passed : goal.returns-then-self-eq0-clause-passed
returns-then-self-eq0-clause-passed c = λ x there.
    let cs = map chain_of c.args.self.now.chains.items in
    none_whole cs (omega (arith, c.args.self.now.counted, c.if-self-eq0.true)) x (taken_has cs c.len.result x there)
