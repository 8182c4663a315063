use Rattle.std.proofs.Common.{◌<◌, length, map, refl, sym, ◌∙◌, arith}
use Rattle.sctp_chains.specs.Links.{chain_of}
use Rattle.sctp_chains.proofs.MemoryLemmas.{at_kept, length_kept}
use Rattle.sctp_chains.proofs.search.whole_at.Goals as goal

pub returns-in-Some : goal.returns-in-Some
returns-in-Some c =
    let cs = c.args.chains.now.items in
    let within : c.args.at < length (map chain_of cs) = let less = c.requires in let n = length_kept cs in omega (arith, less, n) in
    (refl, (chain_of c.get-chain.result.now, record { within = within; here = at_kept cs c.args.at c.get-chain.result.now c.requires c.get-chain.ensures; ends = c.if-chain.true; head = sym c.head.ensures ∙ c.in-Some.is }))
