use Rattle.std.proofs.Common.{map, arith}
use Rattle.sctp_chains.specs.Links.{chain_of}
use Rattle.sctp_chains.proofs.MemoryLemmas.{length_kept}
use Rattle.sctp_chains.proofs.WholeCounts.{whole_few}
use Rattle.sctp_chains.proofs.filed.Filed.file.Goals as goal

pub invariant_of-self-then-filed-gt0 : goal.invariant_of-self-then-filed-gt0
invariant_of-self-then-filed-gt0 c =
    let new = c.file.new.chains.items in
    let few = whole_few (map chain_of new) in
    let size = length_kept new in
    let old = length_kept c.args.self.now.chains.items in
    record {
      counted = omega (arith, few, size, c.in_ok-filed.ensures.whole, c.args.self.now.counted, c.len-count.ensures);
      known = c.in_ok-filed.ensures.passed c.args.self.now.passed _ c.args.self.now.known (omega (arith, size, old)) (λ some. omega arith);
    }

pub invariant_of-self-else-filed-gt0 : goal.invariant_of-self-else-filed-gt0
invariant_of-self-else-filed-gt0 c =
    let new = c.file.new.chains.items in
    let few = whole_few (map chain_of new) in
    let size = length_kept new in
    let old = length_kept c.args.self.now.chains.items in
    record {
      counted = omega (arith, few, size, c.in_ok-filed.ensures.whole, c.args.self.now.counted, c.len-count.ensures);
      known = c.in_ok-filed.ensures.passed c.args.self.now.passed _ c.args.self.now.known (omega (arith, size, old)) (λ some. absurd (omega (arith, some)));
    }
