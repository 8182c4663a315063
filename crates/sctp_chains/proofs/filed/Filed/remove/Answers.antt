use Rattle.std.proofs.Common.{List, sym, ap, subst, arith}
use Rattle.sctp_chains.specs.Links.{ChainKept, whole_in}
use Rattle.sctp_chains.specs.inner.Finding.{AreOpen}
use Rattle.sctp_chains.proofs.filed.Filed.remove.Goals as goal

pub invariant_of-self : goal.invariant_of-self
invariant_of-self c =
    let same = ap whole_in c.in_err-chain.ensures.unchanged in
    record {
      counted = omega (arith, same, c.args.self.now.counted);
      known = subst (λ (cs : List ChainKept). AreOpen c.args.self.now.passed cs) (sym c.in_err-chain.ensures.unchanged) c.args.self.now.known;
    }
