use Rattle.std.proofs.Common.{◌≡◌, ◌<◌, List, [], ◌∷◌, length, map, refl, sym, subst, arith}
use Rattle.std.proofs.lemmas.Bool.Decides.{nat_tests}
use Rattle.sctp_model.specs.numbers.Lists.{Has}
use Rattle.sctp_chains.specs.Links.{chain_of}
use Rattle.sctp_chains.specs.StandsFor.{StandsFor}
use Rattle.sctp_chains.specs.declared.chain.Chain.{Chain}
use Rattle.sctp_chains.proofs.MemoryLemmas.{at_kept, length_kept}
use Rattle.sctp_chains.proofs.SearchLemmas.{not_lower}
use Rattle.sctp_chains.proofs.AloneLemmas.{chunks_above}
use Rattle.sctp_chains.proofs.chains.Chains.is_above.Goals as goal

-- there are no chains
no_chains : (cs : List Chain) → length cs ≡ 0 → cs ≡ []
no_chains [] e = refl
no_chains (c ∷ cs) e = absurd (omega (arith, e))

pub returns-then-is_empty : goal.returns-then-is_empty
unfolding StandsFor
returns-then-is_empty g c = λ l kept stands numbered yes.
    let ms = c.args.self.now.filed.chains.items in
    let none = no_chains ms (let is = c.is_empty.ensures in grind (arith, is, yes, nat_tests)) in
    chunks_above g.F.Framing.format l (map chain_of ms) c.args.self.now.held kept stands numbered c.args.number (λ d there. absurd (subst (λ (ns : List Chain). Has (map chain_of ns) d) none there))

pub returns-else-is_empty : goal.returns-else-is_empty
unfolding StandsFor
returns-else-is_empty g c = λ l kept stands numbered yes.
    let ms = c.args.self.now.filed.chains.items in
    let x = c.get.result.now in
    let some : 0 < length ms = let is = c.is_empty.ensures in let no = c.if-is_empty.false in grind (arith, is, no, nat_tests) in
    let less : 0 < length (map chain_of ms) = let all = length_kept ms in omega (arith, some, all) in
    let at = sym (at_kept ms 0 x some c.get.ensures (chain_of x)) in
    let past : c.rank_at.result < (chain_of x).first = let own = c.first.ensures in grind (arith, yes, own, nat_tests) in
    chunks_above g.F.Framing.format l (map chain_of ms) c.args.self.now.held kept stands numbered c.args.number
    (λ d there. let low = not_lower (map chain_of ms) stands.chains 0 (chain_of x) less at d there in omega (arith, low, past, c.rank_at.ensures))
