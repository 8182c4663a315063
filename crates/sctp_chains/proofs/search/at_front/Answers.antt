use Rattle.std.proofs.Common.{◌<◌, length, map, sym, subst, arith}
use Rattle.std.proofs.lemmas.Bool.Decides.{nat_tests}
use Rattle.sctp_chains.specs.Links.{chain_of}
use Rattle.sctp_chains.specs.inner.Finding.{IsWholeHere}
use Rattle.sctp_chains.proofs.MemoryLemmas.{at_kept, length_kept}
use Rattle.sctp_chains.proofs.SearchLemmas.{found_first, past_first}
use Rattle.sctp_chains.proofs.search.at_front.Goals as goal

pub returns-then-first-last : goal.returns-then-first-last
returns-then-first-last c = λ chains.
    let cs = c.args.chains.now.items in
    let x = c.get.result.now in
    let some : 0 < length cs = let is = c.is_empty.ensures in let no = c.if-is_empty.false in grind (arith, is, no, nat_tests) in
    let less : 0 < length (map chain_of cs) = let all = length_kept cs in omega (arith, some, all) in
    past_first (map chain_of cs) chains c.args.from c.args.last (chain_of x) less (sym (at_kept cs 0 x some c.get.ensures (chain_of x))) (omega (arith, c.if-first-last.true, c.first-first.ensures))

pub returns-in-Some : goal.returns-in-Some
returns-in-Some c = λ chains.
    let cs = c.args.chains.now.items in
    let x = c.get.result.now in
    let some : 0 < length cs = let is = c.is_empty.ensures in let no = c.if-is_empty.false in grind (arith, is, no, nat_tests) in
    let less : 0 < length (map chain_of cs) = let all = length_kept cs in omega (arith, some, all) in
    found_first (map chain_of cs) chains c.args.from c.args.last (chain_of x) c.in-Some.found less (sym (at_kept cs 0 x some c.get.ensures (chain_of x)))
    (omega (arith, c.if-first-from.false, c.first-first.ensures)) (omega (arith, c.if-first-last.false, c.first-first.ensures)) (subst (IsWholeHere (map chain_of cs) 0) c.in-Some.is c.whole_at.ensures)
