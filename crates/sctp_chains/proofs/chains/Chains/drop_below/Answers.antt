use Rattle.std.proofs.Common.{◌≡◌, ℕ, suc, map, sym, subst, arith}
use Rattle.sctp_chains.specs.Links.{chain_of}
use Rattle.sctp_chains.specs.StandsFor.{StandsFor, KeepsLane}
use Rattle.sctp_chains.specs.WholeOf.{from_number}
use Rattle.sctp_chains.proofs.LaneLemmas.{dropped, none_below}
use Rattle.sctp_chains.proofs.chains.Chains.drop_below.Goals as goal

pub returns-in-Some : goal.returns-in-Some
unfolding StandsFor
returns-in-Some g c = λ l kept stands numbered.
    let is : c.args.number ≡ suc c.in-Some.last = omega (arith, c.in-Some.ensures) in
    dropped g.F.Framing.format l (map chain_of c.args.self.now.filed.chains.items) (map chain_of c.drop_upto-self.new.self.chains.items) c.args.self.now.held c.drop_upto-self.result kept stands numbered
    c.args.number c.in-Some.last c.rank_at-upto.result is c.rank_at-upto.ensures c.drop_upto-self.ensures.left

pub returns-in_default : goal.returns-in_default
unfolding StandsFor
returns-in_default g c = λ l kept stands numbered.
    let none : 0 ≡ c.args.number = omega (arith, c.in_default.ensures) in
    let keeps = KeepsLane g.F.Framing.format l (map chain_of c.args.self.now.filed.chains.items) c.args.self.now.held in
    subst (λ (n : ℕ). keeps (from_number n kept)) none (subst keeps (sym (none_below kept)) stands)
