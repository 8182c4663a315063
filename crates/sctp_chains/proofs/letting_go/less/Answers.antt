use Rattle.std.proofs.Common.{◌≡◌, ◌<◌, ℕ, length, map, take, ap, subst, arith}
use Rattle.sctp_chains.specs.Links.{bytes_of, parts_in}
use Rattle.sctp_chains.specs.inner.LettingGo.{size_of_parts}
use Rattle.sctp_chains.specs.declared.parts.Parts.{Parts}
use Rattle.sctp_chains.proofs.letting_go.less.Goals as goal

-- fewer than one are none
pub returns-in-One : goal.returns-in-One
returns-in-One c =
    let few = subst (λ (p : Parts). c.args.count < length (parts_in p)) c.in-One.is c.requires in
    let none : c.args.count ≡ 0 = omega (arith, few) in
    let size = ap (λ (k : ℕ). size_of_parts (map bytes_of (take k (parts_in c.args.parts.now)))) none in
    omega (arith, size)
