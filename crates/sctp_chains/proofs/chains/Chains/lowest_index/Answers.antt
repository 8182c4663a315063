use Rattle.std.proofs.Common.{◌≡◌, ◌<◌, ◌%◌, length, map, sym, subst, arith}
use Rattle.sctp_chains.specs.Cells.{IsLowestIndex}
use Rattle.std.specs.Prelude.{Some}
use Rattle.sctp_chains.specs.Links.{chain_of}
use Rattle.sctp_chains.specs.StandsFor.{StandsFor}
use Rattle.sctp_chains.proofs.MemoryLemmas.{at_kept, length_kept}
use Rattle.sctp_chains.proofs.LowestLemmas.{none_kept, none_there, lowest_kept, lowest_small}
use Rattle.sctp_chains.proofs.chains.Chains.lowest_index.Goals as goal

pub returns-then-len-eq0 : goal.returns-then-len-eq0
unfolding StandsFor
returns-then-len-eq0 g c = λ l kept stands loose.
    let ms = c.args.self.now.filed.chains.items in
    none_kept g.F.Framing.format l (map chain_of ms) c.args.self.now.held kept stands (none_there (map chain_of ms) (let all = length_kept ms in omega (arith, all, c.if-len-eq0.true, c.len.ensures)))

pub returns : goal.returns
unfolding StandsFor
returns g c = λ l kept stands loose.
    let ms = c.args.self.now.filed.chains.items in
    let cs = map chain_of ms in
    let x = c.get.result.now in
    let some : 0 < length ms = omega (arith, c.if-len-eq0.false, c.len.ensures) in
    let all = length_kept ms in
    let at = sym (at_kept ms 0 x some c.get.ensures (chain_of x)) in
    let lowest = lowest_kept g.F.Framing.format l cs c.args.self.now.held kept stands loose (chain_of x) (omega (arith, some, all)) at in
    let small = lowest_small g.F.Framing.format l cs c.args.self.now.held kept stands loose (chain_of x) (omega (arith, some, all)) at in
    let same : (chain_of x).first ≡ c.first.result % 18446744073709551616 = omega (arith, small, c.first.ensures) in
    subst (λ n. IsLowestIndex kept (Some n)) same lowest
