use Rattle.std.proofs.Common.{◌≡◌, ◌<◌, List, length, map, nat_lt, sym, subst, arith, rules, of_calls}
use Rattle.std.proofs.lemmas.Bool.Decides.{nat_tests}
use Rattle.std.proofs.lemmas.Fn.{always_returns_same}
use Rattle.sctp_model.specs.numbers.Lists.{Has}
use Rattle.sctp_chains.specs.Links.{ChainKept, chain_of}
use Rattle.sctp_chains.specs.declared.chain.Chain.{Chain}
use Rattle.sctp_chains.proofs.FindingLemmas.{begins_below, begins_placed}
use Rattle.sctp_chains.proofs.LowestLemmas.{none_there}
use Rattle.sctp_chains.proofs.MemoryLemmas.{at_kept, length_kept}
use Rattle.sctp_chains.proofs.SearchLemmas.{not_lower}
use Rattle.sctp_chains.proofs.search.start.Goals as goal

pub returns-then-is_empty-clause-place : goal.returns-then-is_empty-clause-place
returns-then-is_empty-clause-place c = λ chains.
    let ms = c.args.chains.now.items in
    let cs = map chain_of ms in
    let none : length cs ≡ 0 = let is = c.is_empty.ensures in let yes = c.if-is_empty.true in let all = length_kept ms in grind (arith, is, yes, all, nat_tests) in
    record {
      front = λ d there. absurd there;
      back = λ d there. absurd (subst (λ (xs : List ChainKept). Has xs d) (none_there cs none) there);
    }

pub returns-then-first-rank-clause-place : goal.returns-then-first-rank-clause-place
returns-then-first-rank-clause-place c = λ chains.
    let ms = c.args.chains.now.items in
    let cs = map chain_of ms in
    let x = c.get.result.now in
    let some : 0 < length ms = let is = c.is_empty.ensures in let no = c.if-is_empty.false in grind (arith, is, no, nat_tests) in
    let less : 0 < length cs = let all = length_kept ms in omega (arith, some, all) in
    let at = sym (at_kept ms 0 x some c.get.ensures (chain_of x)) in
    record {
      front = λ d there. absurd there;
      back = λ d there. let low = not_lower cs chains 0 (chain_of x) less at d there in omega (arith, low, c.if-first-rank.true, c.first.ensures);
    }

pub returns-clause-place : goal.returns-clause-place
returns-clause-place c = λ chains.
    let cs = c.args.chains.now.items in
    let test = λ (x : Chain). nat_lt (chain_of x).first c.args.rank in
    let point = c.partition_point.ensures.partitioned test (always_returns_same _ _ _ (λ a r f k. search (rules, of_calls))) (begins_below c.args.rank cs chains) in
    begins_placed c.args.rank cs c.partition_point.result c.partition_point.ensures.bound point
