use Rattle.std.proofs.Common.{◌<◌, length, map, refl, sym, ap, arith}
use Rattle.sctp_chains.specs.Links.{ChainKept, chain_of}
use Rattle.sctp_chains.proofs.MemoryLemmas.{at_kept, same_at, length_kept}
use Rattle.sctp_chains.proofs.SearchLemmas.{with_rank, none_with}
use Rattle.sctp_chains.proofs.search.whole_with.Goals as goal
use Rattle.sctp_chains.proofs.search.whole_with.Goals.{else-at-len-via-then-at-len+else-first-rank, else-at-len-via-else-at-len}

pub returns-then-first-rank : goal.returns-then-first-rank
returns-then-first-rank c = λ chains.
    let cs = c.args.chains.now.items in
    let x = c.get.result.now in
    let k = c.place-at.result in
    let l : k < length cs = omega (arith, c.if-at-len.true, c.len.ensures) in
    let less : k < length (map chain_of cs) = let n = length_kept cs in omega (arith, l, n) in
    with_rank (map chain_of cs) chains k c.args.rank (chain_of x) c.whole_at.result less (sym (at_kept cs k x l c.get.ensures (chain_of x)))
    (c.place-at.ensures.place chains) (omega (arith, c.if-first-rank.true, c.first.ensures)) c.whole_at.ensures

pub returns : goal.returns
returns c = λ chains.
    let cs = c.args.chains.now.items in
    let k = c.place-at.result in
    none_with (map chain_of cs) chains k c.args.rank (c.place-at.ensures.place chains) (λ y less at low.
    let l : k < length cs = let n = length_kept cs in omega (arith, less, n) in
    elim c.else-at-len.branch [
      | else-at-len-via-then-at-len+else-first-rank w ↦
          let first = ap (λ (z : ChainKept). z.first) (same_at cs k k w.get.result.now y refl l w.get.ensures at) in
          omega (arith, first, low, w.if-first-rank.false, w.first.ensures)
      | else-at-len-via-else-at-len w ↦ omega (arith, l, w.if-at-len.false, c.len.ensures)
    ])
