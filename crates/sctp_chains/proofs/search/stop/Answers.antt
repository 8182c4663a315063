use Rattle.std.proofs.Common.{◌≡◌, ◌<◌, ◌+◌, suc, false, length, map, sym, subst, arith}
use Rattle.sctp_chains.specs.Links.{chain_of, is_whole}
use Rattle.sctp_chains.specs.inner.Finding.{IsOver}
use Rattle.sctp_chains.proofs.MemoryLemmas.{at_kept, length_kept}
use Rattle.sctp_chains.proofs.SearchLemmas.{over_more}
use Rattle.sctp_chains.proofs.OpenLemmas.{no_one}
use Rattle.sctp_chains.proofs.search.stop.Goals as goal

pub loop-at-preserved : goal.loop-at-preserved
loop-at-preserved c =
    let cs = c.args.chains.now.items in
    let k = c.loop-at.at in
    let x = c.get-chain.result.now in
    let l : k < length cs = omega (arith, c.loop-at-test.true, c.len-at-end.ensures) in
    let less : k < length (map chain_of cs) = let n = length_kept cs in omega (arith, l, n) in
    let none : is_whole (chain_of x) ≡ false = no_one (chain_of x) c.whole.result c.whole.ensures c.if-whole-eq1.false in
    let next : suc k ≡ k + 1 = omega arith in
    subst (IsOver (map chain_of cs) c.args.from) next (over_more (map chain_of cs) c.args.from k (chain_of x) less (sym (at_kept cs k x l c.get-chain.ensures (chain_of x))) none c.loop-at.invariant)
