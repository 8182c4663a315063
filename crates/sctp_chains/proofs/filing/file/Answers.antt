use Rattle.std.proofs.Common.{◌<◌, ◌≤◌, ◌+◌, List, sym, subst, length, map, arith}
use Rattle.sctp_chains.specs.declared.chain.Chain.{Chain}
use Rattle.sctp_chains.specs.Links.{chain_of, one_of, whole_in}
use Rattle.sctp_chains.specs.inner.Filing.{Gains, StaysOpen}
use Rattle.sctp_chains.proofs.MemoryLemmas.{at_kept, length_kept}
use Rattle.sctp_chains.proofs.JoiningLemmas.{filed_back}
use Rattle.sctp_chains.proofs.LastLemmas.{behind_last}
use Rattle.sctp_chains.proofs.WholeCounts.{counted_back}
use Rattle.sctp_chains.proofs.OpenLemmas.{kept_set}
use Rattle.sctp_chains.proofs.filing.file.Goals as goal

pub returns-in-Some-clause-filed : goal.returns-in-Some-clause-filed
returns-in-Some-clause-filed c =
    let cs = c.args.chains.now.items in
    let n = length_kept cs in
    let last = c.in-Some.last in
    let l = c.in_ok-whole.ensures.longer in
    let all : c.len-end.result ≤ length cs = omega (arith, c.len-end.ensures) in
    let before = c.in-Some.ensures all in
    let less : last < length cs = let e = before.1 in omega (arith, e, n) in
    let here = sym (at_kept cs last l.from less l.here (chain_of l.from)) in
    subst (λ (xs : List Chain). Gains (one_of c.args.part) (map chain_of cs) (map chain_of xs)) (sym l.put)
    (filed_back cs c.len-end.result c.args.part all
    (λ chains. behind_last (map chain_of cs) c.len-end.result last (chain_of l.from) (one_of c.args.part) chains (omega (arith, n, c.len-end.ensures)) before.0 here (before.2 (chain_of l.from) here))
    last l.from l.to less l.here l.joined before (λ d past at. absurd (omega (arith, past, n, c.len-end.ensures))))

pub returns-in-Some-clause-whole : goal.returns-in-Some-clause-whole
returns-in-Some-clause-whole c =
    let cs = c.args.chains.now.items in
    let l = c.in_ok-whole.ensures.longer in
    let before = c.in-Some.ensures (omega (arith, c.len-end.ensures)) in
    let less : c.in-Some.last < length cs = let e = before.1 in let n = length_kept cs in omega (arith, e, n) in
    subst (λ (xs : List Chain). whole_in (map chain_of xs) ≤ whole_in (map chain_of cs) + c.in_ok-whole.whole) (sym l.put)
    (counted_back cs c.args.part l.from l.to c.in_ok-whole.whole c.in-Some.last less l.here l.whole before.2)

pub returns-in-Some-clause-passed : goal.returns-in-Some-clause-passed
returns-in-Some-clause-passed c =
    let cs = c.args.chains.now.items in
    let l = c.in_ok-whole.ensures.longer in
    subst (λ (xs : List Chain). StaysOpen (map chain_of cs) (map chain_of xs) c.in-Some.last c.in_ok-whole.whole) (sym l.put) (kept_set cs c.in-Some.last l.to c.in_ok-whole.whole l.whole)
